-- A share that does not read, 9, or the round.
-- Assumes nothing.
use Rattle.list.proofs.Answered.{passed_on}
use Rattle.rooms.proofs.RoomCases.{round_refused, round_unread, round_overloaded, round_found}
use Rattle.rooms.proofs.room.round_in.Goals as goal

pub returns-in_err-list : goal.returns-in_err-list
returns-in_err-list c =
    round_refused c.args.stage c.args.share.now _ _ (passed_on _ _ c.from_residual.ensures.1)
    (round_unread c.args.stage c.args.share.now c.in_err-list.ensures)

pub returns-in_err-first_test : goal.returns-in_err-first_test
returns-in_err-first_test c =
    round_refused c.args.stage c.args.share.now _ _ (passed_on _ _ c.from_residual-in_err-first_test.ensures.1)
    (round_overloaded c.args.stage c.args.share.now c.in_ok-list.ensures c.in_err-first_test.ensures)

pub returns : goal.returns
returns c =
    round_found c.args.stage c.args.share.now c.in_ok-list.ensures c.in_ok-first_test.ensures _ c.make_round.ensures
