-- The loop's invariant is the walk so far.
-- Assumes nothing.
use Rattle.edges.proofs.Fronts.{front_at}
use Rattle.edges.proofs.StartCases.{raising_none, raising_out, raising_in}
use Rattle.edges.proofs.starts.raise.Goals as goal
use Rattle.edges.proofs.starts.raise.Goals.{then-windows-i, else-windows-i}

pub loop-i-init : goal.loop-i-init
loop-i-init c = raising_none _ _ _ _ _

pub loop-i-preserved : goal.loop-i-preserved
loop-i-preserved c =
    let next = front_at _ _ _ c.loop-i-test.true in
    elim c.if-windows-i.branch [
      | then-windows-i w ↦ rw w.sum-is (raising_in _ _ _ _ _ _ _ c.loop-i.invariant _ next w.if-windows-i.true _ w.enter-sum.ensures)
      | else-windows-i w ↦ rw w.sum-is (raising_out _ _ _ _ _ _ _ c.loop-i.invariant _ next w.if-windows-i.false)
    ]
