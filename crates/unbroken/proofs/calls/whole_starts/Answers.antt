-- The loop's invariant is `Placed`.
-- Assumes nothing.
use mathlib.Core.Path.{refl, ◌∙◌}
use native.Mathlib.Omega.{arith}
use Rattle.list.proofs.ByPlace.{placed_none, placed_next}
use Rattle.unbroken.proofs.calls.whole_starts.Goals as goal
use Rattle.unbroken.proofs.calls.whole_starts.Goals.{then-whole-i, else-whole-i}

pub loop-i-init : goal.loop-i-init
loop-i-init c = placed_none _ _ _ (omega arith) c.zeros-starts.ensures

pub loop-i-preserved : goal.loop-i-preserved
loop-i-preserved c =
    placed_next _ _ _ _ _ c.loop-i.invariant (rw c.places_held-count.ensures at c.loop-i-test.true)
    (elim c.if-whole-i.branch [
      | then-whole-i w ↦ w.starts-is ∙ rw w.if-whole-i.true refl
      | else-whole-i w ↦ w.starts-is ∙ rw w.if-whole-i.false refl
    ])
