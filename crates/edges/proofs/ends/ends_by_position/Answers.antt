-- The loop's invariant is the ends that the right ends met so far ask.
-- Assumes nothing.
use Rattle.edges.proofs.Fronts.{front_at}
use Rattle.edges.proofs.EndCases.{ends_first, ends_next}
use Rattle.edges.proofs.ends.ends_by_position.Goals as goal

pub loop-b-init : goal.loop-b-init
loop-b-init c = ends_first _ _ _ c.first_ends-ends.ensures

pub loop-b-preserved : goal.loop-b-preserved
loop-b-preserved c = ends_next _ _ _ _ _ c.loop-b.invariant (rw (front_at _ _ _ c.loop-b-test.true) at c.raise_ends.ensures)
