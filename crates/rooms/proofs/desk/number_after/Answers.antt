-- The number after one.
-- Assumes nothing.
use Rattle.rooms.proofs.TurnCases.{after_more, after_zero}
use Rattle.rooms.proofs.desk.number_after.Goals as goal

pub returns-then-k-n : goal.returns-then-k-n
returns-then-k-n c = after_more _ _ c.if-k-n.true

pub returns-else-k-n : goal.returns-else-k-n
returns-else-k-n c = after_zero _ _ c.if-k-n.false
