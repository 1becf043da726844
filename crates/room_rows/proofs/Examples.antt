-- The examples hold of the definitions.
-- Assumes nothing.
use mathlib.Core.Path.{refl}
use Rattle.room_rows.specs.RoomRows.{rooms_from, rooms_in}
use Rattle.room_rows.specs.Examples.{RowExamples}

pub row_examples : RowExamples
unfolding rooms_from rooms_in
row_examples =
    record {
      first_two = refl;
      others = refl;
      stored = refl;
      no_threes = refl;
      threes = refl;
      went = refl;
      room_refused = refl;
      carried = refl;
      none_carried = refl;
      nothing = refl;
      answer = refl;
      turn_refused = refl;
      answer_values = refl;
      turn_refusal = refl;
      refused_carries = refl;
      nothing_carries = refl;
    }
