-- The checks and narrowing may refuse; else the plan in the settled windows is stored.
-- Assumes nothing.
use borrow.Author.Rules.{rules}
use mathlib.Core.Path.{◌≡◌, refl, sym}
use lib.ListN.{length}
use Rattle.base.proofs.Walk.{length_mapped}
use Rattle.list.proofs.Answered.{passed_on}
use Rattle.planner.specs.Calls.{shown_checks}
use Rattle.planner.proofs.CallCases.{shown_plan_lem, shown_formed, narrows_after, found_is, found_planning}
use Rattle.planner.proofs.AnswerCases.{shown_refused, shown_place, shown_not_refused, shown_done}
use Rattle.planner.proofs.calls.show_plan.Goals as goal

pub returns-in_err-shown_checks : goal.returns-in_err-shown_checks
returns-in_err-shown_checks c =
    shown_refused c.args.shown c.args.list c.args.k c.args.plan.now _ _ (passed_on _ _ c.from_residual.ensures.1)
    (rw (← c.in_err-shown_checks.ensures) refl)

pub returns-in_err-found : goal.returns-in_err-found
returns-in_err-found c =
    let room = length c.args.plan.now in
    let found = found_is (shown_checks c.args.list c.args.k room) c.args.list (shown_formed c.args.list c.args.k room)
    c.in_ok-shown_checks.ensures c.whole_places-whole.result c.whole_places-whole.ensures c.unchecked_windows.result
    c.unchecked_windows.ensures _ c.in_err-found.ensures in
    shown_refused c.args.shown c.args.list c.args.k c.args.plan.now _ _ (passed_on _ _ c.from_residual-in_err-found.ensures.1) (sym found)

pub bounds-whole-k : goal.bounds-whole-k
bounds-whole-k c =
    let long : length c.args.list.entries ≡ 64 = search (rules, length_mapped) in
    let planning = found_planning _ c.args.list c.args.plan.now (λ e. (shown_plan_lem _ _ _ e).1) c.in_ok-shown_checks.ensures
    c.whole_places-whole.result c.whole_places-whole.ensures c.unchecked_windows.result c.unchecked_windows.ensures c.in_ok-found.found
    c.in_ok-found.ensures in
    search (rules, shown_place planning long)

pub returns-in_err-bound : goal.returns-in_err-bound
returns-in_err-bound c =
    let long : length c.args.list.entries ≡ 64 = search (rules, length_mapped) in
    let planning = found_planning _ c.args.list c.args.plan.now (λ e. (shown_plan_lem _ _ _ e).1) c.in_ok-shown_checks.ensures
    c.whole_places-whole.result c.whole_places-whole.ensures c.unchecked_windows.result c.unchecked_windows.ensures c.in_ok-found.found
    c.in_ok-found.ensures in
    absurd (shown_not_refused planning long c.in_err-bound.ensures _ refl)

pub returns : goal.returns
returns c =
    let long : length c.args.list.entries ≡ 64 = search (rules, length_mapped) in
    let planning = found_planning _ c.args.list c.args.plan.now (λ e. (shown_plan_lem _ _ _ e).1) c.in_ok-shown_checks.ensures
    c.whole_places-whole.result c.whole_places-whole.ensures c.unchecked_windows.result c.unchecked_windows.ensures c.in_ok-found.found
    c.in_ok-found.ensures in
    let after = narrows_after _ c.args.list (shown_formed c.args.list c.args.k (length c.args.plan.now)) c.in_ok-found.found
    (sym planning.outcome) _ c.list_found.ensures in
    shown_done planning long c.in_ok-bound.ensures _ refl after
