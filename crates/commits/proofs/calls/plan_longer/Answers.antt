-- The rows before may refuse; else the longer list is planned.
-- Assumes nothing.
use mathlib.Core.Path.{ap}
use Rattle.list.specs.Refusals.{outcome_of}
use Rattle.list.proofs.Answered.{passed_on}
use Rattle.commits.proofs.CallCases.{longer_refused, longer_planned}
use Rattle.commits.proofs.calls.plan_longer.Goals as goal

pub returns-in_err-fault : goal.returns-in_err-fault
returns-in_err-fault c =
    longer_refused c.args.fault c.args.list c.args.e c.args.plan.now _ _ c.in_err-fault.was (passed_on _ _ c.from_residual.ensures.1)

pub with_entry-requires : goal.with_entry-requires
with_entry-requires c = c.requires (ap outcome_of c.in_ok-fault.was)

pub returns : goal.returns
returns c =
    longer_planned c.args.fault c.args.list c.args.e c.args.plan.now _ _ c.in_ok-fault.was (rw c.with_entry.ensures at c.plan_day.ensures)
