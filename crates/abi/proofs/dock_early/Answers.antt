-- Showing the plan of the list value that was given.
-- Assumes nothing.
use Rattle.bounds.specs.declared.types.Shown.TheVariants.{Early}
use Rattle.abi.proofs.CallCases.{beside_given, shown_said}
use Rattle.abi.proofs.dock_early.Goals as goal

pub returns-in-Ok : goal.returns-in-Ok
returns-in-Ok c =
    let fields = c.args.fields.now in
    let narrowed = c.args.narrowed.now in
    let given = beside_given fields narrowed _ c.in-Ok.ensures in
    shown_said fields narrowed _ _ given _ Early c.args.place c.args.plan.now _ _ c.show_early.ensures c.give_shown.ensures
