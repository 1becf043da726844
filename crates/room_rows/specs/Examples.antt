-- Rooms as numbers, as one statement; `row_examples` of proofs/Examples.antt proves it.
use Rattle.std.specs.Prelude.{◌≡◌, [], ◌∷◌}
use Rattle.base.specs.Outcomes.{code, answered, refused}
use Rattle.rooms.specs.Turns.{took, none_unfinished}
use Rattle.rooms.specs.Examples.{room_with}
use Rattle.rooms.specs.declared.types.Stage.TheVariants.{Fresh, Begun, Settled, Refused}
use Rattle.room_rows.specs.RoomRows.{room_row, rooms_in, rooms_fault}
use Rattle.room_rows.specs.Calls.{turn_values, values_by, numbers_by, carried_by}

pub record RowExamples : Type 0 where
  -- "its stage (fresh, begun, settled, refused), rounds and moves"; a stage over 3 counts as 3
  pub first_two : rooms_in (0 ∷ 10 ∷ 11 ∷ 1 ∷ 20 ∷ 21 ∷ []) ≡ room_with Fresh 10 11 ∷ room_with Begun 20 21 ∷ []
  pub others : rooms_in (2 ∷ 30 ∷ 31 ∷ 3 ∷ 40 ∷ 41 ∷ 9 ∷ 50 ∷ 51 ∷ [])
      ≡ room_with Settled 30 31 ∷ room_with Refused 40 41 ∷ room_with Refused 50 51 ∷ []
  pub stored : room_row (room_with Settled 30 31) ≡ 2 ∷ 30 ∷ 31 ∷ []
  pub no_threes : rooms_fault 7 ≡ refused (code 100 (6 ∷ []))
  pub threes : rooms_fault 24 ≡ answered tt
  -- "that room, any refusal, and the number after it"
  pub went : turn_values 8 (took 7 (answered tt) 0) ≡ 7 ∷ 0 ∷ 0 ∷ []
  pub room_refused : turn_values 8 (took 2 (refused (code 9 (10 ∷ 20 ∷ 11 ∷ []))) 3) ≡ 2 ∷ 9 ∷ 3 ∷ []
  pub carried : carried_by (answered (took 2 (refused (code 9 (10 ∷ 20 ∷ 11 ∷ []))) 3)) (7 ∷ 7 ∷ 7 ∷ []) ≡ 10 ∷ 20 ∷ 11 ∷ []
  pub none_carried : carried_by (answered (took 7 (answered tt) 0)) (7 ∷ 7 ∷ 7 ∷ []) ≡ 0 ∷ 0 ∷ 0 ∷ []
  pub nothing : turn_values 8 (none_unfinished 5) ≡ 8 ∷ 0 ∷ 5 ∷ []
  -- the answer: 0 with these values, or the turn's own refusal with what it carries; and then what was carried before stays
  pub answer : numbers_by 8 (answered (took 7 (answered tt) 0)) ≡ record { number = 0; values = 7 ∷ 0 ∷ 0 ∷ [] }
  pub turn_refused : numbers_by 9 (refused (code 19 (9 ∷ []))) ≡ record { number = 19; values = 9 ∷ 0 ∷ 0 ∷ [] }
  -- the same as an outcome: these values, or the refusal itself
  pub answer_values : values_by 8 (answered (took 7 (answered tt) 0)) ≡ answered (7 ∷ 0 ∷ 0 ∷ [])
  pub turn_refusal : values_by 9 (refused (code 19 (9 ∷ []))) ≡ refused (code 19 (9 ∷ []))
  pub refused_carries : carried_by (refused (code 19 (9 ∷ []))) (7 ∷ 8 ∷ 9 ∷ []) ≡ 7 ∷ 8 ∷ 9 ∷ []
  pub nothing_carries : carried_by (answered (none_unfinished 5)) (7 ∷ 8 ∷ 9 ∷ []) ≡ 7 ∷ 8 ∷ 9 ∷ []
