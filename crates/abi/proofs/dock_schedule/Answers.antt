-- Filling the plan of the list value that was given.
-- Assumes nothing.
use Rattle.abi.proofs.CallCases.{list_given, schedule_said}
use Rattle.abi.proofs.dock_schedule.Goals as goal

pub returns-in-Ok : goal.returns-in-Ok
returns-in-Ok c =
    let fields = c.args.fields.now in
    let given = list_given fields _ c.in-Ok.ensures in
    schedule_said fields _ given _ _ c.from.ensures c.args.plan.now _ c.schedule.ensures
