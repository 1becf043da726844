-- A room as its numbers say it.
-- Assumes nothing.
use mathlib.Core.Path.{◌∙◌}
use Rattle.room_rows.proofs.RoomTrip.{room_past}
use Rattle.room_rows.proofs.RowCases.{room_read}
use Rattle.room_rows.proofs.rows.room_or.Goals as goal

pub returns-then-i-numbers : goal.returns-then-i-numbers
returns-then-i-numbers c =
    room_read c.args.numbers.now c.args.i c.if-i-numbers.true _ c.stage_of.ensures

pub returns-else-i-numbers : goal.returns-else-i-numbers
returns-else-i-numbers c =
    c.no_row.ensures ∙ room_past c.args.numbers.now c.args.i c.if-i-numbers.false
