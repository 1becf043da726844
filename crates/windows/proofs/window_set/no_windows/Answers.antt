-- The windows of the empty list are all 0.
-- Assumes nothing.
use Rattle.windows.proofs.WindowSetCases.{copy_none}
use Rattle.windows.proofs.window_set.no_windows.Goals as goal

pub returns : goal.returns
returns c = copy_none _ _ _ c.zeros.ensures c.zeros-2.ensures c.zeros-3.ensures
