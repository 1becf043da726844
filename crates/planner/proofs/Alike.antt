-- Lists that are planned alike: those that differ in their opening minute, serials and seals alone, if the value check answers both alike,
-- and so those equal by the documents' rule.
-- Assumes nothing.
use Prim.Native.Nat.{ℕ}
use mathlib.Core.Path.{◌≡◌, refl}
use mathlib.Core.List.{List}
use lib.ListN.{length}
use Rattle.base.specs.Outcomes.{Outcome, and_then}
use Rattle.list.specs.Checks.{check_of, WellFormed}
use Rattle.list.specs.DayLists.{always_open, SameList, whole_in}
use Rattle.list.specs.declared.types.DayList.{DayList}
use Rattle.list.proofs.OpeningLaws.{opening_law}
use Rattle.list.proofs.Alike.{both_pass, same_checked}
use Rattle.windows.specs.Intervals.{overload_of}
use Rattle.windows.proofs.AlikeWindows.{alike_windows}
use Rattle.jackson.specs.Minutes.{schedule}
use Rattle.narrow.specs.Rounds.{narrowing}
use Rattle.narrow.specs.Calls.{SameTimes, listed}
use Rattle.narrow.proofs.Alike.{same_times, times_windows, times_whole, same_listed}
use Rattle.planner.specs.Calls.{plan_checks, shown_checks, narrow_after, settled_or, planned, plan_of, ends_of, starts_of, broken_of}
use Rattle.planner.specs.Calls.{shown_of}
use Rattle.bounds.specs.ShownPlans.{bound_of, shown_plan}
use Rattle.bounds.specs.declared.types.Shown.{Shown}

-- windows, moves, refusals, bounds, broken entries and plans do not depend on opening minutes, serials and seals, nor on what stands from n
-- on, if the value check answers both lists alike
module _ {a b : DayList} (s : SameTimes a b) (checked : check_of a ≡ check_of b) where
  -- the checks before 9
  pub times_plan_checked : (room : ℕ) → plan_checks a room ≡ plan_checks b room
  unfolding plan_checks
  times_plan_checked room = rw (checked, s.h) refl

  pub times_shown_checked : (k room : ℕ) → shown_checks a k room ≡ shown_checks b k room
  unfolding shown_checks
  times_shown_checked k room = rw (checked, s.h, s.n) refl

  -- the settled windows and the moves, or the refusal
  times_after : {x y : Outcome (Unit {0})} → x ≡ y → narrow_after x a ≡ narrow_after y b
  times_after e = λ j. and_then (e j) (λ _. narrowing overload_of (times_whole s j) (alike_windows (times_windows s) j))

  pub times_planned : (room : ℕ) → plan_of a room ≡ plan_of b room
  times_planned room = times_after (times_plan_checked room)

  pub times_shown : (k room : ℕ) → shown_of a k room ≡ shown_of b k room
  times_shown k room = times_after (times_shown_checked k room)

  -- what planning answers beside them, and leaves in a plan buffer
  pub times_ends : (room : ℕ) → ends_of (whole_in a) (plan_of a room) ≡ ends_of (whole_in b) (plan_of b room)
  times_ends room = λ j. ends_of (times_whole s j) (times_planned room j)

  pub times_starts : (room : ℕ) → starts_of (whole_in a) (plan_of a room) ≡ starts_of (whole_in b) (plan_of b room)
  times_starts room = λ j. starts_of (times_whole s j) (times_planned room j)

  pub times_broken : (room : ℕ) → broken_of (whole_in a) (plan_of a room) ≡ broken_of (whole_in b) (plan_of b room)
  times_broken room = λ j. broken_of (times_whole s j) (times_planned room j)

  pub times_plan : (old : List ℕ) → planned schedule old (plan_of a (length old)) ≡ planned schedule old (plan_of b (length old))
  times_plan old = λ j. planned schedule old (times_planned (length old) j)

  -- what showing the plan x of place k answers beside them, and leaves in a plan buffer
  pub times_bound : (x : Shown) (k room : ℕ)
      → settled_or 0 (bound_of x (whole_in a) k) (shown_of a k room) ≡ settled_or 0 (bound_of x (whole_in b) k) (shown_of b k room)
  times_bound x k room = λ j. settled_or 0 (bound_of x (times_whole s j) k) (times_shown k room j)

  pub times_shown_plan : (x : Shown) (k : ℕ) (old : List ℕ)
      → planned (shown_plan x (whole_in a) k) old (shown_of a k (length old))
      ≡ planned (shown_plan x (whole_in b) k) old (shown_of b k (length old))
  times_shown_plan x k old = λ j. planned (shown_plan x (times_whole s j) k) old (times_shown k (length old) j)

-- a well-formed list is planned as it is without its opening minute: all of the above holds of the two
module _ (l : DayList) (formed : WellFormed l) where
  pub opened_times : SameTimes l (always_open l)
  opened_times = record { h = refl; n = refl; entries = refl }

  pub opened_checked : check_of l ≡ check_of (always_open l)
  opened_checked = both_pass l (always_open l) formed ((opening_law l).accepted.0 formed).0

  pub opened_planned : (room : ℕ) → plan_of l room ≡ plan_of (always_open l) room
  opened_planned = times_planned opened_times opened_checked

-- lists that are equal get equal answers: beside those above, which hold of them by `same_times`, the list answered
module _ {a b : DayList} (s : SameList a b) where
  pub same_planned : (room : ℕ) → listed a (plan_of a room) ≡ listed b (plan_of b room)
  same_planned room = same_listed s (times_planned (same_times s) (same_checked s) room)

  pub same_shown : (k room : ℕ) → listed a (shown_of a k room) ≡ listed b (shown_of b k room)
  same_shown k room = same_listed s (times_shown (same_times s) (same_checked s) k room)
