-- Asking on the day that was given.
-- Assumes nothing.
use Rattle.abi.proofs.DayCases.{is_given, ask_said}
use Rattle.abi.proofs.days.dock_ask.Goals as goal

pub returns-in-Ok : goal.returns-in-Ok
returns-in-Ok c =
    let day = c.args.day.now in
    let entry = c.args.entry.now in
    let fields = c.args.narrowed.now in
    let given = is_given day entry fields _ c.in-Ok.ensures in
    ask_said day entry fields _ c.args.plan.now _ c.args.bounds.now _ _ given _ c.entry_given.ensures _ _ c.ask-answer.ensures
    c.give_planned.ensures
