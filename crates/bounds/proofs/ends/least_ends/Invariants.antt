-- The loop's invariant is `Placed`.
-- Assumes nothing.
use Rattle.list.specs.DayLists.{marked}
use Rattle.list.proofs.ByPlace.{Placed}
use Rattle.windows.specs.Windows.{windows_in}
use Rattle.windows.specs.Intervals.{overload_of}
use Rattle.bounds.specs.Ends.{least_end}
use Rattle.bounds.proofs.ends.least_ends.Given as goal

abbrev pub invariant-loop-i : goal.invariant-loop-i
invariant-loop-i l =
    Placed (least_end overload_of (marked l.whole) (windows_in l.windows)) (windows_in l.windows).n l.ends l.i
