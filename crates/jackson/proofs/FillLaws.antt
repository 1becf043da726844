-- The rows of the overload test and of filling a plan buffer, in facts.
-- Assumes nothing.
use mathlib.Core.Path.{refl}
use Prim.Native.Nat.{ℕ}
use borrow.Author.Tests.{lt-ltb, le-ltb}
use Rattle.list.specs.declared.types.DayList.{DayList}
use Rattle.jackson.specs.Calls.{test_of, TestLaw, fill_of, FillLaw}

pub test_law : (l : DayList) → TestLaw l
unfolding test_of
test_law l = record { before = λ k e. rw e refl; then = λ w. rw w refl }

pub fill_law : (l : DayList) (room : ℕ) → FillLaw l room
unfolding fill_of
fill_law l room =
    record {
      before = λ k e. rw e refl;
      short = λ w h. rw (w, lt-ltb _ _ h) refl;
      then = λ w h. rw (w, le-ltb _ _ h) refl;
    }
