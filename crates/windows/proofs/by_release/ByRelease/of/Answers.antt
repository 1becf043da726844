-- All that the array has is below 64: those of the order are places, since it has each place once, and behind them stands 0.
-- Assumes nothing.
use Prim.Native.Nat.{ℕ, ◌<◌, ◌≤◌}
use mathlib.Core.List.{List}
use native.Mathlib.Omega.{arith}
use Rattle.base.proofs.Permutations.{once_in}
use Rattle.base.proofs.Sums.{le_or_lt}
use Rattle.list.specs.DayLists.{most_entries}
use Rattle.order.specs.Orders.{value_at, HoldsOrder}
use Rattle.windows.proofs.by_release.ByRelease.of.Goals as goal

listed : {n : ℕ} {f : ℕ → ℕ} {xs : List ℕ} → HoldsOrder n f xs → n ≤ most_entries → (x : ℕ) → value_at xs x < most_entries
listed {n} held few x =
    le_or_lt n x
    (λ behind. omega (arith, held.rest x behind))
    (λ inside. omega (arith, few, once_in _ _ held.order.once x inside))

pub invariant_of-result-clause-lists_places : goal.invariant_of-result-clause-lists_places
invariant_of-result-clause-lists_places c = λ x _. listed c.largest_first.ensures (omega arith) x

pub returns-clause-holds_order : goal.returns-clause-holds_order
returns-clause-holds_order c = c.largest_first.ensures
