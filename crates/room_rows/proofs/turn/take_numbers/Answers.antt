-- A turn over rows of three numbers: refused, nothing unfinished, or a room had it.
-- Assumes nothing.
use mathlib.Core.Path.{refl, ap, ◌∙◌}
use borrow.Author.Rules.{rules}
use native.Mathlib.Omega.{arith}
use Rattle.std.specs.Prelude.{Ok}
use Rattle.list.proofs.Answered.{passed_on}
use Rattle.codes.specs.declared.RefusalCode.{RefusalCode}
use Rattle.room_rows.proofs.TurnCases.{turn_refused, turn_nothing, in_eight, inside, turn_taken}
use Rattle.room_rows.proofs.turn.take_numbers.Goals as goal

pub returns-in_err-used : goal.returns-in_err-used
returns-in_err-used c =
    rw (passed_on _ _ c.from_residual.ensures.1)
    (turn_refused c.args.numbers.now c.eight_rooms.ensures c.turn_held-answer.ensures (λ i. search rules) c.in_err-used.was)

pub bounds-rows-room : goal.bounds-rows-room
bounds-rows-room c =
    in_eight c.args.numbers.now c.eight_rooms.ensures c.turn_held-answer.ensures (λ i. search rules) (c.in_ok-used.was ∙ ap Ok c.in-Took.is)

pub offset_bounds-rows-room : goal.offset_bounds-rows-room
offset_bounds-rows-room c = let few = bounds-rows-room c in omega (arith, few)

pub put_room-requires : goal.put_room-requires
put_room-requires c =
    inside c.args.numbers.now c.eight_rooms.ensures c.turn_held-answer.ensures (λ i. search rules) (c.in_ok-used.was ∙ ap Ok c.in-Took.is)

pub returns-in-NoneUnfinished : goal.returns-in-NoneUnfinished
returns-in-NoneUnfinished c =
    turn_nothing c.args.numbers.now c.eight_rooms.ensures c.turn_held-answer.ensures (λ i. search rules) (c.in_ok-used.was ∙ ap Ok c.in-NoneUnfinished.is)

pub returns-in-Took : goal.returns-in-Took
returns-in-Took c =
    turn_taken c.args.numbers.now c.eight_rooms.ensures c.turn_held-answer.ensures (λ i. search rules) (c.in_ok-used.was ∙ ap Ok c.in-Took.is) refl
    c.put_room.ensures (ap (λ (x : RefusalCode). x.number) c.said_as-number.ensures)
    (ap (λ (x : RefusalCode). x.values) c.said_as-number.ensures)
