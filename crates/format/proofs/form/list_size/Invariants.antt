-- `form::list_size` meets its contract. The loop's invariant is `SizedSoFar`: what was counted and what is left make the one form's
-- length.
-- Assumes nothing.
use Rattle.format.proofs.WriteCases.{SizedSoFar}
use Rattle.format.proofs.form.list_size.Given as goal

abbrev pub invariant-loop-e : goal.invariant-loop-e
invariant-loop-e l = SizedSoFar l.fn.list l.size l.e-index
