-- The loop's invariant is the sum of the first i entries.
-- Assumes nothing.
use Rattle.edges.proofs.EndCases.{due_start, due_next}
use Rattle.edges.proofs.ends.work_by.Goals as goal

pub loop-i-init : goal.loop-i-init
loop-i-init c = due_start _ _

pub loop-i-preserved : goal.loop-i-preserved
loop-i-preserved c = due_next _ _ _ _ _ c.loop-i.invariant c.minutes_by-kept.ensures
