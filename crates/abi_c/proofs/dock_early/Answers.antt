-- What the call of abi ensures is what the export does.
-- Assumes nothing.
use Rattle.abi_c.proofs.dock_early.Goals as goal

pub returns : goal.returns
returns c = c.dock_early.ensures
