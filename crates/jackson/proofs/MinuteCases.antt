-- Jackson's minute in each case that the code meets.
-- Assumes nothing.
use mathlib.Core.Path.{◌≡◌}
use mathlib.Core.Bool.{true}
use Prim.Native.Nat.{ℕ, ◌<◌, ◌≤◌}
use borrow.Author.Rules.{rules}
use Rattle.windows.specs.Plans.{idle}
use Rattle.jackson.specs.Minutes.{State, is_ready, comes_before, earliest_deadline, chosen}
use Rattle.jackson.specs.Internal.{IsAfterMinutes, IsAfter}
use Rattle.jackson.specs.declared.types.Day.{Day}
use Rattle.base.proofs.Scans.{best_some}
use Rattle.jackson.proofs.Choices.{comes_before_ranks}

-- a place is found, if the entry that had the minute before is ready
pub found_place : (s : State) → s.windows.n ≤ 255 → s.last < s.windows.n → is_ready s s.last ≡ true → earliest_deadline s < s.windows.n
found_place s few held ready =
    (best_some idle (is_ready s) (comes_before s) (comes_before_ranks s) s.windows.n few s.last held ready).below

-- another place's d that is strictly smaller interrupts the entry that had the minute before
pub smaller_interrupts : (s : State) → s.windows.d (earliest_deadline s) < s.windows.d s.last → chosen s ≡ earliest_deadline s
unfolding chosen
smaller_interrupts s smaller = search rules

-- one minute
pub after_one : (day : Day) (k : ℕ) (next : Day) → IsAfterMinutes day k 1 next → IsAfter day k next
after_one day k next run = record { state = run.state; n = run.n }
