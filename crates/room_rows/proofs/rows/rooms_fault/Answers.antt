-- Row 100.
-- Assumes nothing.
use Rattle.room_rows.proofs.RowCases.{fault_none, fault_over}
use Rattle.room_rows.proofs.rows.rooms_fault.Goals as goal

pub returns-then-over-eq0 : goal.returns-then-over-eq0
returns-then-over-eq0 c = fault_none _ c.if-over-eq0.true

pub returns-else-over-eq0 : goal.returns-else-over-eq0
returns-else-over-eq0 c = fault_over _ c.if-over-eq0.false
