-- The checks and narrowing may refuse; else the plan is stored, and the bounds are those of the settled windows.
-- Assumes nothing.
use mathlib.Core.Path.{sym}
use lib.ListN.{length}
use Rattle.list.proofs.Answered.{passed_on}
use Rattle.planner.specs.Calls.{plan_checks}
use Rattle.planner.proofs.SettledPlans.{checks_refuse}
use Rattle.planner.proofs.CallCases.{plan_formed, narrows_after, found_is, found_planning, plan_held, plan_long}
use Rattle.planner.proofs.AnswerCases.{plan_refused, plan_done}
use Rattle.planner.proofs.calls.plan_day.Goals as goal

pub returns-in_err-plan_checks : goal.returns-in_err-plan_checks
returns-in_err-plan_checks c =
    let room = length c.args.plan.now in
    plan_refused (plan_checks c.args.list room) c.args.list (plan_formed c.args.list room) c.args.plan.now _ _
    (passed_on _ _ c.from_residual.ensures.1) (checks_refuse c.args.list room c.in_err-plan_checks.ensures)

pub returns-in_err-found : goal.returns-in_err-found
returns-in_err-found c =
    let room = length c.args.plan.now in
    let formed = plan_formed c.args.list room in
    let found = found_is (plan_checks c.args.list room) c.args.list formed c.in_ok-plan_checks.ensures c.whole_places-whole.result
    c.whole_places-whole.ensures c.unchecked_windows.result c.unchecked_windows.ensures _ c.in_err-found.ensures in
    plan_refused (plan_checks c.args.list room) c.args.list formed c.args.plan.now _ _
    (passed_on _ _ c.from_residual-in_err-found.ensures.1) (sym found)

pub broken_in-broken-requires : goal.broken_in-broken-requires
broken_in-broken-requires c =
    let planning = found_planning _ c.args.list c.args.plan.now (λ e. e) c.in_ok-plan_checks.ensures c.whole_places-whole.result
    c.whole_places-whole.ensures c.unchecked_windows.result c.unchecked_windows.ensures c.in_ok-found.found c.in_ok-found.ensures in
    plan_held planning c.unchecked_schedule-filled.ensures

pub shape_of-plan : goal.shape_of-plan
shape_of-plan c =
    let planning = found_planning _ c.args.list c.args.plan.now (λ e. e) c.in_ok-plan_checks.ensures c.whole_places-whole.result
    c.whole_places-whole.ensures c.unchecked_windows.result c.unchecked_windows.ensures c.in_ok-found.found c.in_ok-found.ensures in
    plan_long planning c.unchecked_schedule-filled.ensures

pub returns : goal.returns
returns c =
    let planning = found_planning _ c.args.list c.args.plan.now (λ e. e) c.in_ok-plan_checks.ensures c.whole_places-whole.result
    c.whole_places-whole.ensures c.unchecked_windows.result c.unchecked_windows.ensures c.in_ok-found.found c.in_ok-found.ensures in
    let after = narrows_after _ c.args.list (plan_formed c.args.list (length c.args.plan.now)) c.in_ok-found.found (sym planning.outcome) _
    c.list_found.ensures in
    plan_done planning c.unchecked_schedule-filled.ensures c.broken_in-broken.ensures c.bounds_of.ensures after
