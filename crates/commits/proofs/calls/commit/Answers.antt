-- Rows 17 and 18, then planning the longer list, and the day after it.
-- Assumes nothing.
use mathlib.Core.Path.{refl, ◌∙◌}
use Rattle.commits.specs.Calls.{commit_fault}
use Rattle.commits.proofs.RowFacts.{commit_passed}
use Rattle.commits.proofs.CallCases.{success_room, day_after_success, day_after_refusal}
use Rattle.commits.proofs.calls.commit.Goals as goal

pub plan_longer-planned-requires : goal.plan_longer-planned-requires
plan_longer-planned-requires c = rw c.commit_fault.ensures (commit_passed c.args.day c.args.stamp)

pub longer_day-next-requires : goal.longer_day-next-requires
longer_day-next-requires c =
    let day = c.args.day in
    let plans = rw c.commit_fault.ensures at c.plan_longer-planned.ensures in
    success_room (commit_fault day c.args.stamp) day.list c.args.e c.args.plan.now _ _ plans (commit_passed day c.args.stamp)
    (c.in-Ok.field-0, c.in-Ok.is)

pub returns-in-Ok : goal.returns-in-Ok
returns-in-Ok c =
    let day = c.args.day in
    let plans = rw c.commit_fault.ensures at c.plan_longer-planned.ensures in
    let after = day_after_success (commit_fault day c.args.stamp) day.list c.args.e c.args.plan.now _ _ plans
    (c.in-Ok.field-0, c.in-Ok.is) day in
    record { plans = plans; day = c.longer_day-next.ensures ∙ after; stamp = refl }

pub returns-in-Err : goal.returns-in-Err
returns-in-Err c =
    let day = c.args.day in
    let plans = rw c.commit_fault.ensures at c.plan_longer-planned.ensures in
    let after = day_after_refusal (commit_fault day c.args.stamp) day.list c.args.e c.args.plan.now _ _ plans _ c.in-Err.is day in
    record { plans = plans; day = after; stamp = refl }
