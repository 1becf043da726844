-- The overload test of a fresh room.
-- Assumes nothing.
use Rattle.rooms.proofs.RoomCases.{test_fresh}
use Rattle.rooms.proofs.room.first_test.Goals as goal

pub returns-in-Fresh : goal.returns-in-Fresh
returns-in-Fresh c =
    test_fresh c.args.list c.args.stage c.overload.result c.requires c.in-Fresh.is c.overload.ensures
