-- `put_carried` meets its contract: the values that the number has.
-- Assumes nothing.
use borrow.Author.Tests.{eq-eqb, ne_eqb}
use Rattle.report.specs.Text.{ascii}
use Rattle.report.proofs.StepCases.{puts_then}
use Rattle.report.proofs.text.Text.put_carried.Goals as goal

pub returns-then-number-eq9 : goal.returns-then-number-eq9
unfolding ascii
returns-then-number-eq9 g c =
    rw c.if-number-eq9.true
    (puts_then c.put_after.ensures
    (puts_then c.put_after-then-number-eq9.ensures c.put_after-then-number-eq9-2.ensures))

pub returns-then-number-eq10 : goal.returns-then-number-eq10
unfolding ascii
returns-then-number-eq10 g c =
    simp (ne_eqb _ _ c.if-number-eq9.false, eq-eqb _ _ c.if-number-eq10.true) c.put_after-then-number-eq10.ensures

pub returns-else-number-eq10 : goal.returns-else-number-eq10
unfolding ascii
returns-else-number-eq10 g c =
    simp (ne_eqb _ _ c.if-number-eq9.false, ne_eqb _ _ c.if-number-eq10.false) c.put_after-else-number-eq10.ensures
