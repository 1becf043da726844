-- Rooms as rows of numbers: the stage, rounds and moves of each.
use Rattle.std.specs.Prelude.{ℕ, zero, suc, ◌+◌, ◌-◌, ◌*◌, ◌/◌, ◌%◌, cond, not, List, [], ◌∷◌, length, get_or, eqb}
use Rattle.base.specs.Outcomes.{Outcome, answered, row, first_of}
use Rattle.rooms.specs.declared.types.Stage.{Stage}
use Rattle.rooms.specs.declared.types.Stage.TheVariants.{Fresh, Begun, Settled, Refused}
use Rattle.rooms.specs.declared.types.Room.{Room}

-- how many numbers say a room
abbrev pub room_numbers : ℕ
room_numbers = 3

-- the number of a stage
abbrev pub stage_number : Stage → ℕ
stage_number Fresh = 0
stage_number Begun = 1
stage_number Settled = 2
stage_number Refused = 3

-- the stage that a number says; a number too large counts as the largest
abbrev pub stage_of : ℕ → Stage
stage_of number = cond (eqb number 0) Fresh (cond (eqb number 1) Begun (cond (eqb number 2) Settled Refused))

-- the numbers that say a room
abbrev pub room_row : Room → List ℕ
room_row r = stage_number r.stage ∷ r.rounds ∷ r.moves ∷ []

-- the room that the numbers from a place on say
abbrev pub room_at : List ℕ → ℕ → Room
room_at xs at = record { stage = stage_of (get_or xs at 0); rounds = get_or xs (at + 1) 0; moves = get_or xs (at + 2) 0 }

-- k rooms from room i on
unfoldable pub rooms_from : ℕ → ℕ → List ℕ → List Room
rooms_from zero i xs = []
rooms_from (suc k) i xs = room_at xs (room_numbers * i) ∷ rooms_from k (i + 1) xs

-- the rooms that numbers say: as many as there are threes
unfoldable pub rooms_in : List ℕ → List Room
rooms_in xs = rooms_from (length xs / room_numbers) 0 xs

-- row 100 for so many numbers, if three does not divide them; it carries the largest multiple of three below
abbrev pub rooms_fault : ℕ → Outcome (Unit {0})
rooms_fault numbers =
    first_of (row 100 (not (eqb (numbers % room_numbers) 0)) (numbers - numbers % room_numbers) ∷ []) (answered tt)
