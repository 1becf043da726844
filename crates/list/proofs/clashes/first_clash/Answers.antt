-- `clashes::first_clash` meets its contract. The loop's invariant: no entry before the place clashes with an earlier one.
-- Assumes nothing.
use borrow.Author.Rules.{rules}
use mathlib.Core.Path.{sym, ◌∙◌}
use Rattle.base.proofs.Walk.{length_mapped}
use Rattle.base.proofs.Searches.{passed_none, passed_next}
use Rattle.list.proofs.ClashCases.{clash_asked, clash_found, clash_none}
use Rattle.list.proofs.clashes.first_clash.Goals as goal

pub loop-place-init : goal.loop-place-init
loop-place-init c = passed_none _ _

pub clashes_earlier-requires : goal.clashes_earlier-requires
clashes_earlier-requires c =
    clash_asked c.args.list (search (rules, length_mapped)) c.places_held-count.ensures _ c.loop-place-test.true

pub returns-then-clashes_earlier : goal.returns-then-clashes_earlier
returns-then-clashes_earlier c =
    clash_found c.args.list (search (rules, length_mapped)) c.places_held-count.ensures _ c.loop-place.invariant
    (sym c.if-clashes_earlier.true ∙ c.clashes_earlier.ensures)

pub loop-place-preserved : goal.loop-place-preserved
loop-place-preserved c =
    passed_next _ _ c.loop-place.place c.loop-place.invariant c.loop-place-test.true
    (sym c.clashes_earlier.ensures ∙ c.if-clashes_earlier.false)

pub returns : goal.returns
returns c =
    clash_none c.args.list (search (rules, length_mapped)) c.places_held-count.ensures _ c.loop-place.invariant c.loop-place-test.false
