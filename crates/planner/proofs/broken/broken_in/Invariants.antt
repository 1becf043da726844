-- The loop's invariant is `BrokenSoFar`.
-- Assumes nothing.
use Rattle.list.specs.DayLists.{marked}
use Rattle.windows.specs.Windows.{windows_in}
use Rattle.planner.proofs.BrokenCases.{BrokenSoFar}
use Rattle.planner.proofs.broken.broken_in.Given as goal

abbrev pub invariant-loop-i : goal.invariant-loop-i
invariant-loop-i l = BrokenSoFar (marked l.whole) (windows_in l.windows) l.plan l.sum l.i
