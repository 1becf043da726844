-- The checks and narrowing may refuse; else what the search in the settled windows says is answered, and a day that is found is stored.
-- Assumes nothing.
use mathlib.Core.Path.{refl, ◌∙◌}
use lib.ListN.{length}
use Rattle.list.specs.DayLists.{whole_in}
use Rattle.list.proofs.Answered.{passed_on}
use Rattle.windows.specs.Windows.{windows_of}
use Rattle.windows.specs.Intervals.{overload_of}
use Rattle.backtracking.specs.Searches.{search_within}
use Rattle.backtracking.specs.Calls.{AnswersSearch}
use Rattle.unbroken.specs.Internal.{starts_said}
use Rattle.planner.proofs.SettledPlans.{checks_refuse, narrowing_refuses, narrows_so}
use Rattle.unbroken.proofs.UnbrokenCases.{finds_refused, finds_searched}
use Rattle.unbroken.proofs.calls.unbroken_day.Goals as goal

pub returns-in_err-plan_checks : goal.returns-in_err-plan_checks
returns-in_err-plan_checks c =
    finds_refused c.args.list c.args.limit c.args.plan.now _ _ (passed_on _ _ c.from_residual.ensures.1)
    (checks_refuse c.args.list (length c.args.plan.now) c.in_err-plan_checks.ensures)

pub returns-in_err-narrowed : goal.returns-in_err-narrowed
returns-in_err-narrowed c =
    finds_refused c.args.list c.args.limit c.args.plan.now _ _ (passed_on _ _ c.from_residual-in_err-narrowed.ensures.1)
    (narrowing_refuses c.args.list (length c.args.plan.now) c.in_ok-plan_checks.ensures _ c.in_err-narrowed.ensures _ refl)

pub returns : goal.returns
returns c =
    let searched = c.search_windows-searched.result in
    let whole_says = c.whole_places-whole.ensures in
    let narrowed = c.in_ok-narrowed.narrowed in
    let says : AnswersSearch (windows_of narrowed.list)
    (search_within overload_of c.args.limit (whole_in c.args.list) (windows_of narrowed.list)) searched =
    rw (← whole_says, ← c.unchecked_windows.ensures.windows) c.search_windows-searched.ensures.says in
    finds_searched c.args.list c.args.limit c.args.plan.now narrowed
    (narrows_so c.args.list (length c.args.plan.now) c.in_ok-plan_checks.ensures _ c.in_ok-narrowed.ensures)
    searched says _ c.store_found.ensures c.starts_said.result
    (c.starts_said.ensures ∙ λ i. starts_said (whole_says i) searched)
