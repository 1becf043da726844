-- `lent::turn` meets its contract: the turn over eight rows held by value, and the row stored, are the turn over what is lent.
-- Assumes nothing.
use Rattle.std.proofs.Common.{rules, ◌<◌, ◌≤◌, length}
use Rattle.list.proofs.Answered.{passed_on}
use Rattle.rooms.specs.Turns.{most_rooms}
use Rattle.rooms.proofs.LentTurns.{turn_stopped, stored_inside, turn_lent}
use Rattle.rooms.proofs.lent.turn.Goals as goal

pub returns-in_err-turn : goal.returns-in_err-turn
returns-in_err-turn c =
    rw (passed_on _ _ c.from_residual.ensures.1)
    (turn_stopped c.args.rooms.now c.args.lists.now c.args.number (rw c.gather-rows.ensures at c.in_err-turn.ensures))

stored_at : (c : goal.In-Some) → (c.in-Some.at < length c.args.rooms.now) × (length c.args.rooms.now ≤ most_rooms)
stored_at c =
    stored_inside c.args.rooms.now c.args.lists.now c.args.number (rw c.gather-rows.ensures at c.in_ok-turn.ensures) c.in-Some.is

pub offset_bounds-rooms-at : goal.offset_bounds-rooms-at
offset_bounds-rooms-at c = search (rules, stored_at c)

pub bounds-rooms-at : goal.bounds-rooms-at
bounds-rooms-at c = (stored_at c).0

pub returns-in-Some : goal.returns-in-Some
returns-in-Some c =
    turn_lent c.args.rooms.now c.args.lists.now c.args.number (rw c.gather-rows.ensures at c.in_ok-turn.ensures) c.in-Some.is

pub returns-in_default : goal.returns-in_default
returns-in_default c =
    turn_lent c.args.rooms.now c.args.lists.now c.args.number (rw c.gather-rows.ensures at c.in_ok-turn.ensures) c.in_default.is
