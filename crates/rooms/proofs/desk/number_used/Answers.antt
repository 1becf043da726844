-- The number as it is used.
-- Assumes nothing.
use Rattle.rooms.proofs.TurnCases.{used_same, used_zero}
use Rattle.rooms.proofs.desk.number_used.Goals as goal

-- The number as it is used.
pub returns-then-number-n : goal.returns-then-number-n
returns-then-number-n c = used_same _ _ c.if-number-n.true

pub returns-else-number-n : goal.returns-else-number-n
returns-else-number-n c = used_zero _ _ c.if-number-n.false
