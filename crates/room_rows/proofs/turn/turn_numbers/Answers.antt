-- Row 100, then the turn.
-- Assumes nothing.
use Rattle.list.proofs.Answered.{passed_on}
use Rattle.room_rows.proofs.TurnCases.{numbers_turned, numbers_no_rows}
use Rattle.room_rows.proofs.turn.turn_numbers.Goals as goal

pub returns-in_err-rooms_fault : goal.returns-in_err-rooms_fault
returns-in_err-rooms_fault c =
    rw (passed_on _ _ c.from_residual.ensures.1)
    (numbers_no_rows c.args.numbers.now c.args.lists.now c.args.number c.args.carried.now c.in_err-rooms_fault.ensures)

pub returns : goal.returns
returns c =
    numbers_turned c.args.numbers.now c.args.lists.now c.args.number c.args.carried.now c.in_ok-rooms_fault.ensures c.take_numbers.ensures
