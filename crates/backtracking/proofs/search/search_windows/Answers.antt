-- The search begins on its way, stays there where it goes back, and each of its three ends is what the defined search ends with.
-- Assumes nothing.
use mathlib.Core.Path.{sym, ◌∙◌}
use native.Mathlib.Omega.{arith}
use Rattle.list.specs.DayLists.{marked}
use Rattle.backtracking.proofs.SearchCases.{way_begins, way_found, way_left, way_spent, way_none, way_again}
use Rattle.backtracking.proofs.UnbrokenLaws.{searches_so}
use Rattle.backtracking.proofs.search.search_windows.Goals as goal

pub loop-at-init : goal.loop-at-init
loop-at-init c =
    way_begins (marked c.args.whole) c.args.windows c.args.limit c.entered-at.result c.entered-at.ensures

pub loop-at-preserved : goal.loop-at-preserved
loop-at-preserved c =
    let windows = c.args.windows in
    let place = rw c.places_held-count.ensures at c.if-count-at.false in
    let none_left =
    sym c.start_left.ensures ∙ c.if-start_left.false in
    way_again (marked c.args.whole) windows c.args.limit c.loop-at.at c.loop-at.invariant
    place none_left c.in-Some.last c.in-Some.ensures
    c.gone_back-at.result c.gone_back-at.ensures

pub returns-then-count-at : goal.returns-then-count-at
returns-then-count-at c =
    searches_so (marked c.args.whole) c.args.windows c.args.limit _
    (way_found (marked c.args.whole) c.args.windows c.args.limit c.loop-at.at c.loop-at.invariant
    (omega (arith, c.if-count-at.true, c.places_held-count.ensures)))

pub returns-then-limit-at : goal.returns-then-limit-at
returns-then-limit-at c =
    let holds = c.loop-at.invariant in
    let windows = c.args.windows in
    let whole = c.args.whole in
    let limit = c.args.limit in
    let place = rw c.places_held-count.ensures at c.if-count-at.false in
    let left = way_left (marked whole) windows limit c.loop-at.at holds place
    (sym c.start_left.ensures ∙ c.if-start_left.true) in
    searches_so (marked whole) windows limit _
    (way_spent (marked whole) windows limit c.loop-at.at holds
    place left c.if-limit-at.true)

pub returns-in_default : goal.returns-in_default
returns-in_default c =
    let windows = c.args.windows in
    let place = rw c.places_held-count.ensures at c.if-count-at.false in
    let none_left =
    sym c.start_left.ensures ∙ c.if-start_left.false in
    searches_so (marked c.args.whole) windows c.args.limit _
    (way_none (marked c.args.whole) windows c.args.limit c.loop-at.at c.loop-at.invariant
    place none_left c.in_default.ensures)
