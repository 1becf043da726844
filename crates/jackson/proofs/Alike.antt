-- Lists that are planned alike: those that differ in their opening minute, serials, seals and kinds alone, if the value check answers both
-- alike, and so those equal by the documents' rule.
-- Assumes nothing.
use mathlib.Core.Path.{◌≡◌, refl, ap}
use mathlib.Core.List.{List, [], ◌∷◌, ◌++◌}
use Prim.Native.Nat.{ℕ}
use lib.ListN.{drop}
use Rattle.base.specs.Outcomes.{Outcome, answered, refused, first_of, and_then}
use Rattle.list.specs.Checks.{check_of}
use Rattle.list.specs.declared.types.DayList.{DayList}
use Rattle.windows.specs.Windows.{Windows, windows_of, SameWindows}
use Rattle.windows.specs.Intervals.{overload_of}
use Rattle.windows.proofs.AlikeWindows.{alike_windows}
use Rattle.jackson.specs.Minutes.{day_start, schedule}
use Rattle.jackson.specs.Calls.{test_of, buffer_row, fill_of, plan_after}

-- Where the value check answers both alike, as it does if both pass (`both_pass`) or have the same opening minute and serials
-- (`serials_checked`), the calls answer the same, and leave the same in a plan buffer.
module _ {a b : DayList} (s : SameWindows a b) (checked : check_of a ≡ check_of b) where
  pub alike_tested : test_of a ≡ test_of b
  unfolding test_of
  alike_tested = λ j. and_then (checked j) (λ _. overload_of (alike_windows s j))

  pub alike_filled : (room : ℕ) → fill_of a room ≡ fill_of b room
  unfolding fill_of
  alike_filled room =
      λ j.
      and_then (checked j)
      (λ _. first_of (buffer_row (s.h j) room ∷ []) (overload_of (alike_windows s j)))

  pub alike_plan : (room : ℕ) (old : List ℕ)
      → plan_after (fill_of a room) (windows_of a) old ≡ plan_after (fill_of b room) (windows_of b) old
  alike_plan room old = rw (alike_filled room) (go (fill_of b room))
    where
      go : (o : Outcome (Unit {0})) → plan_after o (windows_of a) old ≡ plan_after o (windows_of b) old
      go (answered t) = ap (λ (w : Windows). schedule w ++ drop w.h old) (alike_windows s)
      go (refused k) = refl

  -- and they start the same day
  pub alike_started : day_start (windows_of a) ≡ day_start (windows_of b)
  alike_started = ap day_start (alike_windows s)
