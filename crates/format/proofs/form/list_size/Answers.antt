-- `form::list_size` meets its contract. The loop's invariant is `SizedSoFar`: what was counted and what is left make the one form's
-- length.
-- Assumes nothing.
use native.Mathlib.Omega.{arith}
use Rattle.format.proofs.WriteCases.{list_short, sized_start, sized_next, sized_done}
use Rattle.format.proofs.form.list_size.Goals as goal

pub loop-e-init : goal.loop-e-init
loop-e-init c = sized_start c.args.list _ c.header_size-size.ensures

pub overflow_add-size : goal.overflow_add-size
overflow_add-size c =
    let counted = sized_next c.args.list _ _ _ _ _ c.loop-e.invariant (rw c.from.ensures at c.loop-e-test.true)
    (rw c.from.ensures at c.fields_in.ensures) c.size_of-size.ensures in
    omega (arith, list_short c.args.list c.requires, counted)

pub loop-e-preserved : goal.loop-e-preserved
loop-e-preserved c =
    sized_next c.args.list _ _ _ _ _ c.loop-e.invariant (rw c.from.ensures at c.loop-e-test.true)
    (rw c.from.ensures at c.fields_in.ensures) c.size_of-size.ensures

pub returns : goal.returns
returns c = sized_done c.args.list _ _ c.loop-e.invariant (rw c.from.ensures at c.loop-e-test.false)
