-- The loop's invariant is the pass so far.
-- Assumes nothing.
use native.Mathlib.Omega.{arith}
use mathlib.Core.Path.{sym, ◌∙◌}
use Rattle.edges.proofs.StartCases.{passing_none, passing_low, passing_not, passing_row}
use Rattle.edges.proofs.starts.pass.Goals as goal
use Rattle.edges.proofs.starts.pass.Goals.{else-s-from-via-then-s-from+else-is_considered, else-s-from-via-else-s-from}

pub loop-x-init : goal.loop-x-init
loop-x-init c = rw c.places_held-x.ensures (passing_none _ _ _ _ _ _)

pub loop-x-preserved-then-is_considered : goal.loop-x-preserved-then-is_considered
loop-x-preserved-then-is_considered c =
    rw c.raise-s.ensures
    (passing_row _ _ _ _ _ _ _ _ c.loop-x.invariant (omega (arith, c.loop-x.auto.x, c.places_held-x.ensures)) c.loop-x-test.true
    (omega (arith, c.if-s-from.true, c.from.ensures)) (sym c.is_considered.ensures ∙ c.if-is_considered.true))

pub loop-x-preserved : goal.loop-x-preserved
loop-x-preserved c =
    elim c.else-s-from.branch [
      | else-s-from-via-then-s-from+else-is_considered w ↦
          passing_not _ _ _ _ _ _ _ _ c.loop-x.invariant (omega (arith, c.loop-x.auto.x, c.places_held-x.ensures)) c.loop-x-test.true
          (omega (arith, w.if-s-from.true, c.from.ensures)) (sym w.is_considered.ensures ∙ w.if-is_considered.false)
      | else-s-from-via-else-s-from w ↦
          passing_low _ _ _ _ _ _ _ _ c.loop-x.invariant (omega (arith, c.loop-x.auto.x, c.places_held-x.ensures)) c.loop-x-test.true
          (omega (arith, w.if-s-from.false, c.from.ensures))
    ]
