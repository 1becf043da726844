-- Looking for an unbroken day of the list value that was given.
-- Assumes nothing.
use Rattle.abi.proofs.CallCases.{beside_given}
use Rattle.abi.proofs.SearchCases.{unbroken_said}
use Rattle.abi.proofs.search.dock_unbroken.Goals as goal

pub returns-in-Ok : goal.returns-in-Ok
returns-in-Ok c =
    let fields = c.args.fields.now in
    let narrowed = c.args.narrowed.now in
    let given = beside_given fields narrowed _ c.in-Ok.ensures in
    unbroken_said fields narrowed _ _ given _ c.args.limit c.args.plan.now _ c.args.starts.now _ _ c.unbroken_day.ensures
    c.give_search.ensures
