-- `entry::read_fields` meets its contract: each answer is the case of `fields_entry` that its tests say.
-- Assumes nothing.
use mathlib.Core.Path.{sym, ◌∙◌}
use native.Mathlib.Omega.{arith}
use Rattle.list.proofs.Answered.{handed_on}
use Rattle.format.proofs.EntryCases.{fields_short, fields_default, fields_taken, fields_refused}
use Rattle.format.proofs.entry.read_fields.Goals as goal

pub returns-then-rest-size : goal.returns-then-rest-size
returns-then-rest-size c =
    fields_short c.args.frame c.args.at c.args.m c.args.rest.now (omega (arith, c.if-rest-size.true, c.size_of-size.ensures))

pub returns-then-default_written : goal.returns-then-default_written
returns-then-default_written c =
    fields_default c.args.frame c.args.at c.args.m c.args.rest.now _ c.entry_at-e.ensures
    (omega (arith, c.if-rest-size.false, c.size_of-size.ensures)) (sym c.default_written.ensures ∙ c.if-default_written.true)

pub returns-in_err-entry_fault : goal.returns-in_err-entry_fault
returns-in_err-entry_fault c =
    handed_on _ _ c.from_residual.ensures.1
    ∙ fields_refused c.args.frame c.args.at c.args.m c.args.rest.now _ c.entry_at-e.ensures
    (omega (arith, c.if-rest-size.false, c.size_of-size.ensures)) (sym c.default_written.ensures ∙ c.if-default_written.false)
    c.in_err-entry_fault.ensures

pub returns : goal.returns
returns c =
    fields_taken c.args.frame c.args.at c.args.m c.args.rest.now _ c.entry_at-e.ensures
    (omega (arith, c.if-rest-size.false, c.size_of-size.ensures)) (sym c.default_written.ensures ∙ c.if-default_written.false)
    c.in_ok-entry_fault.ensures _ c.size_of-size.ensures
