-- `text_of` meets its contract.
-- Assumes nothing.
use Rattle.dock.proofs.Cases.{prints, report_held, refused_printed}
use Rattle.dock.proofs.text_of.Goals as goal

pub returns-in-Ok : goal.returns-in-Ok
returns-in-Ok c =
    prints c.args.input.now c.args.count c.requires.input_limit _ _
    (report_held _ c.args.text.now _ c.requires.enough_in_bounds c.in-Ok.size c.in-Ok.ensures)

pub returns-in-Err : goal.returns-in-Err
returns-in-Err c =
    prints c.args.input.now c.args.count c.requires.input_limit _ _
    (rw (refused_printed _ c.args.text.now _ c.requires.enough_in_bounds c.in-Err.x c.in-Err.ensures) c.line_of.ensures)
