-- Committing to the day that was given.
-- Assumes nothing.
use Rattle.abi.proofs.DayCases.{is_given, commit_said}
use Rattle.abi.proofs.days.dock_commit.Goals as goal

pub returns-in-Ok : goal.returns-in-Ok
returns-in-Ok c =
    let day = c.args.day.now in
    let entry = c.args.entry.now in
    let fields = c.args.narrowed.now in
    let given = is_given day entry fields _ c.in-Ok.ensures in
    commit_said day entry fields _ c.args.plan.now _ c.args.bounds.now _ _ given _ c.entry_given.ensures _ _ c.args.stamp _
    c.commit-answer.ensures c.give_day.ensures c.give_planned.ensures
