-- `runs::run_end` meets its contract. The loop's invariant is `Extends`.
-- Assumes nothing.
use Rattle.report.proofs.RunCases.{extends_none, extends_next, ends_day, ends_here}
use Rattle.report.proofs.runs.run_end.Goals as goal

pub loop-e-init : goal.loop-e-init
loop-e-init c = extends_none _ _ c.requires

pub loop-e-preserved : goal.loop-e-preserved
loop-e-preserved c =
    extends_next _ _ _ c.loop-e.invariant c.loop-e-test.true c.requires c.if-plan-e.false

pub returns : goal.returns
returns c = ends_day _ _ _ c.loop-e.invariant c.loop-e-test.false

pub returns-then-plan-e : goal.returns-then-plan-e
returns-then-plan-e c =
    ends_here _ _ _ c.loop-e.invariant c.loop-e-test.true c.requires c.if-plan-e.true
