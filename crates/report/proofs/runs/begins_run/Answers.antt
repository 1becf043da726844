-- `runs::begins_run` meets its contract, at minute 0 and later.
-- Assumes nothing.
use Rattle.report.proofs.RunCases.{begins_first, begins_later}
use Rattle.report.proofs.runs.begins_run.Goals as goal
use Rattle.report.proofs.runs.begins_run.Goals.{then-t-eq0, else-t-eq0}

pub returns-then-place : goal.returns-then-place
returns-then-place c =
    elim c.if-t-eq0.branch [
      | then-t-eq0 w ↦ begins_first c.args.plan.now _ c.requires c.if-place.true _ w.if-t-eq0.true w.before-is
      | else-t-eq0 w ↦ begins_later c.args.plan.now _ c.requires c.if-place.true _ w.if-t-eq0.false w.before-is
    ]
