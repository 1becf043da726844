-- The three numbers are stored one behind the other.
-- Assumes nothing.
use Prim.Native.Nat.{◌*◌}
use Rattle.room_rows.specs.RoomRows.{room_numbers, stage_number}
use Rattle.room_rows.proofs.RowCases.{three_stored}
use Rattle.room_rows.proofs.rows.put_room.Goals as goal

pub returns : goal.returns
returns c =
    let room = c.args.room in
    rw (c.copy_from_slice.ensures.after, c.stage_number.ensures)
    (three_stored c.args.numbers.now (room_numbers * c.args.k) (stage_number room.stage) room.rounds room.moves c.requires)
