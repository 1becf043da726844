-- The share of a round that is made has room for its list.
-- Assumes nothing.
use Rattle.rooms.proofs.RoomCases.{room_written, room_done}
use Rattle.rooms.proofs.room.room_round.Goals as goal

pub returns-in-Ok : goal.returns-in-Ok
returns-in-Ok c =
    let found = c.in-Ok.ensures in
    room_done c.args.row c.args.share.now found (room_written c.args.row c.args.share.now found c.requires c.write-written.ensures)
    c.stage_after.ensures c.count_on.ensures c.count_on-in-Ok.ensures
