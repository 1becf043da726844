-- `writer::write` meets its contract: the value check, then the room, then the one form.
-- Assumes nothing.
use borrow.Author.Rules.{rules}
use mathlib.Core.Path.{sym}
use native.Mathlib.Omega.{arith}
use Rattle.base.proofs.Walk.{length_mapped}
use Rattle.list.proofs.InTypes.{owned_typed}
use Rattle.list.proofs.Answered.{handed_on}
use Rattle.format.proofs.WriteCases.{form_fits}
use Rattle.format.proofs.CallCases.{write_refused, write_short, write_done}
use Rattle.format.proofs.writer.write.Goals as goal

pub returns-in_err-check : goal.returns-in_err-check
returns-in_err-check c =
    write_refused c.args.list c.args.out.now (owned_typed c.args.list (search (rules, length_mapped)) _ c.well_formed.0.1.1.1.1.0.1.1) _ (handed_on _ _ c.from_residual.ensures.1) c.in_err-check.ensures

pub list_size-size-requires : goal.list_size-size-requires
list_size-size-requires c = form_fits c.args.list (sym c.in_ok-check.ensures)

pub returns-then-out-size : goal.returns-then-out-size
returns-then-out-size c =
    write_short c.args.list c.args.out.now (owned_typed c.args.list (search (rules, length_mapped)) _ c.well_formed.0.1.1.1.1.0.1.1) _ (sym c.in_ok-check.ensures) c.list_size-size.ensures c.if-out-size.true

pub put_list-requires : goal.put_list-requires
put_list-requires c = (form_fits c.args.list (sym c.in_ok-check.ensures), omega (arith, c.list_size-size.ensures, c.if-out-size.false))

pub returns : goal.returns
returns c =
    write_done c.args.list c.args.out.now (owned_typed c.args.list (search (rules, length_mapped)) _ c.well_formed.0.1.1.1.1.0.1.1) _ _ (sym c.in_ok-check.ensures) c.list_size-size.ensures c.if-out-size.false c.put_list.ensures
