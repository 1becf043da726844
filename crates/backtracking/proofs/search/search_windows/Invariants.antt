-- The loop's invariant is `OnTheWay`; a trial takes one of those left, and going back leaves the place smaller.
-- Assumes nothing.
use Prim.Native.Nat.{◌+◌, ◌-◌, ◌*◌}
use Rattle.list.specs.DayLists.{marked}
use Rattle.windows.specs.Windows.{windows_in}
use Rattle.backtracking.specs.Internal.{OnTheWay}
use Rattle.backtracking.proofs.search.search_windows.Given as goal

abbrev pub invariant-loop-at : goal.invariant-loop-at
invariant-loop-at l = OnTheWay (marked l.whole) (windows_in l.windows) l.limit l.at

abbrev pub decreases-loop-at : goal.decreases-loop-at
decreases-loop-at l = (l.limit - l.at.trials) * 65 + l.at.place
