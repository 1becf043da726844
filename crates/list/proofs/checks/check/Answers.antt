-- `checks::check` meets its contract: the values decide, or the first entry that clashes with an earlier one.
-- Assumes nothing.
use borrow.Author.Rules.{rules}
use mathlib.Core.Path.{◌∙◌}
use Rattle.base.proofs.Walk.{length_mapped}
use Rattle.list.proofs.Answered.{handed_on}
use Rattle.list.proofs.ClashCases.{check_values, check_clash, check_apart}
use Rattle.list.proofs.checks.check.Goals as goal

pub returns-in_err-values_fault : goal.returns-in_err-values_fault
returns-in_err-values_fault c = handed_on _ _ c.from_residual.ensures.1 ∙ check_values c.args.list c.in_err-values_fault.ensures

pub returns-then-place-places_held : goal.returns-then-place-places_held
returns-then-place-places_held c =
    check_clash c.args.list (search (rules, length_mapped)) c.places_held.ensures _ c.in_ok-values_fault.ensures c.first_clash-place.ensures
    c.if-place-places_held.true

pub returns : goal.returns
returns c =
    check_apart c.args.list (search (rules, length_mapped)) c.places_held.ensures _ c.in_ok-values_fault.ensures c.first_clash-place.ensures
    c.if-place-places_held.false
