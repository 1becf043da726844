-- The loop's invariant is the sum of the first i entries.
-- Assumes nothing.
use Rattle.windows.specs.Windows.{windows_in}
use Rattle.edges.specs.Internal.{DueBy}
use Rattle.edges.proofs.ends.work_by.Given as goal

abbrev pub invariant-loop-i : goal.invariant-loop-i
invariant-loop-i l = DueBy (windows_in l.windows) l.i l.b l.kept
