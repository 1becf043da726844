-- A turn over rows of numbers: what it answers, and what it leaves in all that is lent.
use Rattle.std.specs.Prelude.{ℕ, ◌+◌, ◌*◌, ◌<◌, ◌≤◌, ◌≡◌, ◌⊎◌, List, [], ◌∷◌, length, get_or, Result, Ok, Err}
use Rattle.std.proofs.lemmas.List.Edits.{sets}
use Rattle.base.specs.Outcomes.{Outcome, answered, refused, and_then}
use Rattle.list.specs.Refusals.{code_of, outcome_of}
use Rattle.list.specs.declared.types.Refusal.{Refusal}
use Rattle.codes.specs.Codes.{three}
use Rattle.codes.specs.declared.RefusalCode.{RefusalCode}
use Rattle.rooms.specs.Turns.{Lent, row_in, Turn, took, none_unfinished, turn_of, lent_by}
use Rattle.room_rows.specs.RoomRows.{room_numbers, rooms_in, room_row, rooms_fault}

-- what is lent, as rooms and their lists
abbrev pub lent_in : List ℕ → List ℕ → Lent
lent_in xs lists = record { rows = rooms_in xs; lists = lists }

-- a turn: row 100 for the numbers, then as over rows of structs
abbrev pub turn_in : List ℕ → List ℕ → ℕ → Outcome Turn
turn_in xs lists number = and_then (rooms_fault (length xs)) (λ _. turn_of (lent_in xs lists) number)

-- "any refusal" of the room that had the turn: its number, 0 where there is none, and the values that it carries
abbrev pub said_number : Outcome (Unit {0}) → ℕ
said_number (answered t) = 0
said_number (refused k) = k.number

abbrev pub said_values : Outcome (Unit {0}) → List ℕ
said_values (answered t) = three []
said_values (refused k) = three k.carries

-- the three values of a turn of m rooms that is not refused: "that room, any refusal, and the number after it"; where nothing is
-- unfinished, m, which is no room's number, no refusal, and the number as it was used
abbrev pub turn_values : ℕ → Turn → List ℕ
turn_values m (took k said next) = k ∷ said_number said ∷ next ∷ []
turn_values m (none_unfinished used) = m ∷ 0 ∷ used ∷ []

-- those values, or the turn's own refusal
abbrev pub values_by : ℕ → Outcome Turn → Outcome (List ℕ)
values_by m o = and_then o (λ t. answered (turn_values m t))

-- 0 with those values, or the number of the turn's own refusal with what it carries
abbrev pub numbers_by : ℕ → Outcome Turn → RefusalCode
numbers_by m (answered t) = record { number = 0; values = turn_values m t }
numbers_by m (refused k) = record { number = k.number; values = three k.carries }

-- the same of an answer: 0 with its values, or its refusal's number with what it carries
abbrev pub numbers_told : Result (List ℕ) Refusal → RefusalCode
numbers_told (Ok v) = record { number = 0; values = v }
numbers_told (Err x) = record { number = (code_of x).number; values = three (code_of x).carries }

-- the rooms' numbers after a turn with this outcome: those of the room that had it are its row's, and no other changes
abbrev pub rooms_by : Outcome Turn → Lent → List ℕ → List ℕ
rooms_by (answered (took k said next)) x xs = sets xs (room_numbers * k) (room_row (row_in (lent_by (answered (took k said next)) x) k))
rooms_by (answered (none_unfinished used)) x xs = xs
rooms_by (refused k) x xs = xs

-- the values of the room's refusal, which stay as they were where no room had the turn
abbrev pub carried_by : Outcome Turn → List ℕ → List ℕ
carried_by (answered (took k said next)) old = said_values said
carried_by (answered (none_unfinished used)) old = old
carried_by (refused k) old = old

-- what a turn over x, whose rooms are the numbers xs, leaves if it has the outcome o; the numbers left say the rooms left
pub record RoomsLeft (x : Lent) (o : Outcome Turn) (xs old_carried new_rooms new_lists new_carried : List ℕ) : Type 0 where
  pub rooms : new_rooms ≡ rooms_by o x xs
  pub lists : new_lists ≡ (lent_by o x).lists
  pub carried : new_carried ≡ carried_by o old_carried
  pub back : rooms_in new_rooms ≡ (lent_by o x).rows

-- so the numbers of no other room change, whatever they say: `rooms_law` of proofs/RoomLaws.antt
abbrev pub RoomsLaw : Type 0
RoomsLaw =
    (x : Lent) (xs : List ℕ) (i : ℕ) (said : Outcome (Unit {0})) (next : ℕ) (j : ℕ) → (j < 3 * i) ⊎ (3 * i + 3 ≤ j)
    → get_or (rooms_by (answered (took i said next)) x xs) j 0 ≡ get_or xs j 0

-- what it answers, and leaves
pub record NumbersTurn (x : Lent) (o : Outcome Turn) (xs old_carried : List ℕ) (a : Result (List ℕ) Refusal)
    (new_rooms new_lists new_carried : List ℕ) : Type 0 where
  pub answer : outcome_of a ≡ values_by (length x.rows) o
  pub told : numbers_told a ≡ numbers_by (length x.rows) o
  pub left : RoomsLeft x o xs old_carried new_rooms new_lists new_carried

-- what `turn_numbers` answers of rooms as numbers, their lists and a number, and leaves there
abbrev pub TurnsNumbers : (xs lists : List ℕ) (number : ℕ) (carried : List ℕ) → Result (List ℕ) Refusal
    → (new_rooms new_lists new_carried : List ℕ) → Type 0
TurnsNumbers xs lists number carried = NumbersTurn (lent_in xs lists) (turn_in xs lists number) xs carried
