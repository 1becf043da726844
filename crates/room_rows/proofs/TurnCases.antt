-- A turn over rows of numbers, case by case.
-- Assumes nothing.
use mathlib.Core.Path.{◌≡◌, sym, ap, ◌∙◌, subst}
use mathlib.Core.List.{List, [], ◌∷◌, ◌++◌}
use Prim.Native.Nat.{ℕ, ◌+◌, ◌*◌, ◌/◌, ◌<◌, ◌≤◌}
use native.Mathlib.Omega.{arith}
use lib.ListN.{length, get_or, take, drop, get_or-append}
use lib.Seq.{sets, get_or-set_same}
use Rattle.base.specs.Outcomes.{Outcome, answered, refused}
use Rattle.base.proofs.Sums.{le_or_lt}
use Rattle.list.specs.Machine.{Bytes}
use Rattle.list.specs.Refusals.{code_of, outcome_of}
use Rattle.list.specs.declared.types.Refusal.{Refusal}
use Rattle.list.specs.declared.types.Refusal.TheVariants.{RoomCount}
use Rattle.std.specs.Prelude.{Err, Ok, Result}
use Rattle.rooms.specs.Rooms.{row_after}
use Rattle.rooms.specs.Turns.{most_rooms, Lent, no_row, row_in, eight_rows, Turn, took, round_for, turn_of, lent_by, lent_after}
use Rattle.rooms.specs.Calls.{turn_answer_of, Turns, TurnsHeld}
use Rattle.rooms.specs.declared.types.Room.{Room}
use Rattle.rooms.specs.declared.types.HeldAnswer.{HeldAnswer}
use Rattle.rooms.specs.declared.types.Turn as types
use Rattle.rooms.specs.declared.types.Turn.TheVariants.{NoneUnfinished, Took}
use Rattle.rooms.proofs.EightRows.{first_rows}
use Rattle.rooms.proofs.LentTurns.{turn_many}
use Rattle.room_rows.specs.RoomRows.{room_numbers, rooms_in, room_row, rooms_fault}
use Rattle.room_rows.specs.Calls.{lent_in, turn_in, said_number, said_values, NumbersTurn, TurnsNumbers}
use Rattle.room_rows.specs.Internal.{TurnsRooms}
use Rattle.room_rows.proofs.RoomTrip.{rooms_count, rooms_stored}

-- a refusal, of the turn or of the numbers, leaves all that is lent
pub numbers_refused : (xs lists carried : List ℕ) (o : Outcome Turn) {x : Refusal} → o ≡ refused (code_of x)
    → NumbersTurn (lent_in xs lists) o xs carried (Err x) xs lists carried
numbers_refused xs lists carried o e =
    record { answer = rw e; told = rw e; left = record { rooms = rw e; lists = rw e; carried = rw e; back = rw e } }

module _ (xs : List ℕ) {lists : List ℕ} {number : ℕ} {first : List Room} (eight : first ≡ eight_rows (rooms_in xs) no_row)
    {held : HeldAnswer} {new : List ℕ} (turned : TurnsHeld first (length xs / room_numbers) lists number held new) (b : Bytes lists) where
  abbrev x : Lent
  x = lent_in xs lists

  abbrev n : ℕ
  n = length xs / room_numbers

  -- the rows after the turn, what `turn` promises of them, and where those of up to eight rooms are held
  record OverRooms : Type 0 where
    rows : List Room
    turns : Turns x number held.answer (record { rows = rows; lists = new })
    held_first : n ≤ most_rooms → held.rows ≡ rows ++ drop n first

  over_rooms : OverRooms
  over_rooms =
      le_or_lt n most_rooms
      (λ few.
      let got = turned.few few in
      let room : length (rooms_in xs) ≤ most_rooms = omega (arith, few, rooms_count xs) in
      let lent : take n first ≡ rooms_in xs = (λ j. take (sym (rooms_count xs) j) (eight j)) ∙ first_rows (rooms_in xs) room in
      record {
        rows = got.first;
        turns = subst (λ (ys : List Room). Turns (record { rows = ys; lists = lists }) number held.answer
            (record { rows = got.first; lists = new })) lent got.turned;
        held_first = λ _. got.rows;
      })
      (λ h.
      let got = turned.many h in
      let many : most_rooms < length (rooms_in xs) = omega (arith, h, rooms_count xs) in
      let is : Err (RoomCount (length (rooms_in xs))) ≡ held.answer =
      ap (λ (k : ℕ). Err (RoomCount k)) (rooms_count xs) ∙ sym (ap (λ (a : HeldAnswer). a.answer) got.0) in
      record {
        rows = rooms_in xs;
        turns = subst (λ (t : Result types.Turn Refusal). Turns x number t (record { rows = rooms_in xs; lists = new })) is
            (subst (λ (ls : List ℕ). Turns x number (Err (RoomCount (length (rooms_in xs))))
            (record { rows = rooms_in xs; lists = ls })) (sym got.1) (turn_many (rooms_in xs) lists number b many));
        held_first = λ few. absurd (omega (arith, h, few));
      })

  abbrev rows : List Room
  rows = over_rooms.rows

  abbrev turns : Turns x number held.answer (record { rows = rows; lists = new })
  turns = over_rooms.turns

  module _ (t : Result types.Turn Refusal) (is : held.answer ≡ t) where
    outcome_is : turn_of x number ≡ turn_answer_of t
    outcome_is = sym turns.answer ∙ ap turn_answer_of is

    lent_is : record { rows = rows; lists = new } ≡ lent_by (turn_answer_of t) x
    unfolding lent_after
    lent_is = turns.lent ∙ ap (λ (o : Outcome Turn). lent_by o x) outcome_is

    lists_are : new ≡ (lent_by (turn_answer_of t) x).lists
    lists_are = ap (λ (y : Lent). y.lists) lent_is

    rows_are : rows ≡ (lent_by (turn_answer_of t) x).rows
    rows_are = ap (λ (y : Lent). y.rows) lent_is

  pub turn_refused : {old : List ℕ} {z : Refusal} → held.answer ≡ Err z → TurnsRooms xs lists number old (Err z) xs new old
  turn_refused {old} {z} is =
      let same : lists ≡ new = sym (lists_are (Err z) is) in
      subst (λ (ls : List ℕ). TurnsRooms xs lists number old (Err z) xs ls old) same
      (numbers_refused xs lists old (turn_of x number) (outcome_is (Err z) is))

  pub turn_nothing : {old : List ℕ} {used : ℕ} → held.answer ≡ Ok (NoneUnfinished used)
      → TurnsRooms xs lists number old (Ok (length xs / room_numbers ∷ 0 ∷ used ∷ [])) xs new old
  turn_nothing {old} {used} is =
      let o = outcome_is (Ok (NoneUnfinished used)) is in
      record {
        answer = rw (o, rooms_count xs);
        told = rw (o, rooms_count xs);
        left = record { rooms = rw o; lists = rw o (lists_are (Ok (NoneUnfinished used)) is); carried = rw o; back = rw o };
      }

  -- the room that had the turn
  module _ {k : ℕ} {round : Result (Unit {0}) Refusal} {next : ℕ} (is : held.answer ≡ Ok (Took k round next)) where
    o : turn_of x number ≡ answered (took k (outcome_of round) next)
    o = outcome_is (Ok (Took k round next)) is

    below : k < length xs / room_numbers
    below = omega (arith, (turns.law.taken k (outcome_of round) next o).is_next.inside, rooms_count xs)

    pub inside : room_numbers * k + room_numbers ≤ length xs
    inside = omega (arith, below)

    pub in_eight : k < most_rooms
    in_eight =
        omega (
          arith,
          (turns.law.taken k (outcome_of round) next o).is_next.inside,
          (turns.law.fits (took k (outcome_of round) next) o).few,
        )

    few : n ≤ most_rooms
    few = omega (arith, (turns.law.fits (took k (outcome_of round) next) o).few, rooms_count xs)

    as_many : length rows ≡ n
    as_many = ap (λ (y : Lent). length y.rows) turns.lent ∙ turns.law.rows_stay ∙ rooms_count xs

    abbrev after : Outcome Turn
    after = answered (took k (outcome_of round) next)

    row_is : get_or held.rows k no_row ≡ row_in (lent_by after x) k
    row_is =
        ap (λ (ys : List Room). get_or ys k no_row) (over_rooms.held_first few)
        ∙ get_or-append rows (drop n first) no_row k (omega (arith, below, as_many))
        ∙ ap (λ (ys : List Room). get_or ys k no_row) (rows_are (Ok (Took k round next)) is)

    abbrev row : Room
    row = row_after (row_in x k) (round_for x k)

    stored_row : row_in (lent_by after x) k ≡ row
    stored_row = get_or-set_same (rooms_in xs) k row no_row (omega (arith, below, rooms_count xs))

    pub turn_taken : {r : Room} {old rooms carried : List ℕ} {said : ℕ} → r ≡ get_or held.rows k no_row
        → rooms ≡ sets xs (room_numbers * k) (room_row r)
        → said ≡ said_number (outcome_of round) → carried ≡ said_values (outcome_of round)
        → TurnsRooms xs lists number old (Ok (k ∷ said ∷ next ∷ [])) rooms new carried
    turn_taken {r} {old} {rooms} {carried} {said} at stored number_is values_are =
        let same : rooms ≡ sets xs (room_numbers * k) (room_row (row_in (lent_by after x) k)) =
        stored ∙ ap (λ (y : Room). sets xs (room_numbers * k) (room_row y)) (at ∙ row_is) in
        record {
          answer = rw (o, number_is);
          told = rw (o, number_is);
          left =
              record {
                rooms = rw o same;
                lists = rw o (lists_are (Ok (Took k round next)) is);
                carried = rw o values_are;
                back = rw o
                    (ap rooms_in (same ∙ ap (λ (y : Room). sets xs (room_numbers * k) (room_row y)) stored_row)
                    ∙ rooms_stored xs k row below);
              };
        }

-- the numbers passed row 100, or did not
module _ (xs lists : List ℕ) (number : ℕ) (old : List ℕ) where
  pub numbers_turned : answered tt ≡ rooms_fault (length xs) → {a : Result (List ℕ) Refusal} {rooms new carried : List ℕ}
      → TurnsRooms xs lists number old a rooms new carried → TurnsNumbers xs lists number old a rooms new carried
  numbers_turned passed turned = rw (← passed) turned

  pub numbers_no_rows : {z : Refusal} → refused (code_of z) ≡ rooms_fault (length xs)
      → TurnsNumbers xs lists number old (Err z) xs lists old
  numbers_no_rows failed = numbers_refused xs lists old (turn_in xs lists number) (rw (← failed))
