-- `line_of` meets its contract.
-- Assumes nothing.
use Rattle.dock.proofs.Cases.{line_held}
use Rattle.dock.proofs.line_of.Goals as goal

pub returns-in-Ok : goal.returns-in-Ok
returns-in-Ok c =
    line_held c.args.x c.numbers_of.result c.numbers_of.ensures c.args.text.now _ c.requires c.in-Ok.size c.in-Ok.ensures
