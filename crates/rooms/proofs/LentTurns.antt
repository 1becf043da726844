-- A turn over eight rows held by value, and the row stored, is the turn over what is lent.
-- Assumes nothing.
use mathlib.Core.Path.{◌≡◌, refl, sym, ap, ◌∙◌, fun_ext}
use mathlib.Core.List.{List, [], ◌∷◌}
use Prim.Native.Nat.{ℕ, ◌<◌, ◌≤◌}
use native.Mathlib.Omega.{arith}
use borrow.Author.Tests.{lt-ltb, ne_eqb}
use lib.ListN.{length, get_or, set}
use Rattle.std.specs.Prelude.{Option, Some, None, Result, Ok, Err}
use Rattle.base.specs.Outcomes.{code, Outcome, answered, refused}
use Rattle.base.proofs.Sums.{le_or_lt}
use Rattle.list.specs.Machine.{Bytes}
use Rattle.list.specs.Refusals.{code_of}
use Rattle.list.specs.declared.types.Refusal.{Refusal}
use Rattle.list.specs.declared.types.Refusal.TheVariants.{RoomCount}
use Rattle.rooms.specs.Rooms.{round_in, row_after, share_after}
use Rattle.rooms.specs.Turns.{most_rooms, Lent, no_row, row_in, share_of, put_share, Turn, took, none_unfinished}
use Rattle.rooms.specs.Turns.{answer_of, turn_of, lent_by, lent_after}
use Rattle.rooms.specs.Calls.{Turns, TurnsFirst, TurnsHeld}
use Rattle.rooms.specs.Internal.{answer_held, stored_by, lists_by, taken_of, TakesTurn}
use Rattle.rooms.specs.declared.types.Room.{Room}
use Rattle.rooms.specs.declared.types.TurnTaken.{TurnTaken}
use Rattle.rooms.specs.declared.types.HeldAnswer.{HeldAnswer}
use Rattle.rooms.proofs.TurnLaws.{turn_law}
use Rattle.rooms.proofs.RunLaws.{turns_law}
use Rattle.rooms.proofs.EightRows.{eight, eight_at}

-- the rows with this one stored
abbrev pub rows_with : Option (ℕ × Room) → List Room → List Room
rows_with (Some (k, r)) ys = set ys k r
rows_with None ys = ys

-- a place and its row, of which there is one, or none
one_place : {k j : ℕ} {r s : Room} → ◌≡◌ {A = Option (ℕ × Room)} (Some (k, r)) (Some (j, s)) → k ≡ j
one_place {k} {j} {r} {s} e = let same : (k, r) ≡ (j, s) = cc e in ap (λ (p : ℕ × Room). p.0) same

no_place : {k : ℕ} {r : Room} → ◌≡◌ {A = Option (ℕ × Room)} (Some (k, r)) None → ⊥
no_place e = cc e

module _ (ys : List Room) (lists : List ℕ) (number : ℕ) where
  abbrev x : Lent
  x = record { rows = ys; lists = lists }

  abbrev n : ℕ
  n = length ys

  many : (at : ℕ → Room) → most_rooms < n → answer_of at n lists number ≡ refused (code 19 (n ∷ []))
  unfolding answer_of
  many at h = let z : n ≡ 0 → ⊥ = omega arith in rw (ne_eqb n 0 z, lt-ltb most_rooms n h)

  same_answer : answer_held (eight ys) n number lists ≡ turn_of x number
  unfolding answer_held turn_of
  same_answer =
      let held : ℕ → Room = λ i. get_or (eight ys) i no_row in
      le_or_lt n most_rooms
      (λ few. ap (λ (at : ℕ → Room). answer_of at n lists number) (fun_ext {f = held} {g = row_in x} (eight_at ys few)))
      (λ h. many held h ∙ sym (many (row_in x) h))

  -- the rows and lists that an answer leaves
  rows_by : n ≤ most_rooms → (o : Outcome Turn) → rows_with (stored_by o (eight ys) lists) ys ≡ (lent_by o x).rows
  rows_by few (answered (took k said next)) =
      ap (λ (r : Room). set ys k (row_after r (round_in r.stage (share_of k lists)))) (eight_at ys few k)
  rows_by few (answered (none_unfinished used)) = refl
  rows_by few (refused k) = refl

  lists_by_lem : n ≤ most_rooms → (o : Outcome Turn) → lists_by o (eight ys) lists ≡ (lent_by o x).lists
  lists_by_lem few (answered (took k said next)) =
      ap (λ (r : Room). put_share k (share_after (share_of k lists) (round_in r.stage (share_of k lists))) lists) (eight_at ys few k)
  lists_by_lem few (answered (none_unfinished used)) = refl
  lists_by_lem few (refused k) = refl

  too_many : most_rooms < n → turn_of x number ≡ refused (code 19 (n ∷ []))
  unfolding turn_of
  too_many h = many (row_in x) h

  rows_after : rows_with (stored_by (turn_of x number) (eight ys) lists) ys ≡ (lent_after x number).rows
  unfolding lent_after
  rows_after = le_or_lt n most_rooms (λ few. rows_by few (turn_of x number)) (λ h. rw (too_many h))

  lists_after : lists_by (turn_of x number) (eight ys) lists ≡ (lent_after x number).lists
  unfolding lent_after
  lists_after = le_or_lt n most_rooms (λ few. lists_by_lem few (turn_of x number)) (λ h. rw (too_many h))

  -- more than eight rows are refused
  pub turn_many : Bytes lists → most_rooms < n → Turns x number (Err (RoomCount n)) x
  turn_many b h =
      record {
        answer = sym (too_many h);
        lent = sym ((turn_law x b number).refusal _ (too_many h));
        law = turn_law x b number;
        turns = turns_law x b number;
      }

  module _ {a : Result TurnTaken Refusal} {new : List ℕ} (takes : TakesTurn (eight ys) n number lists a new) where
    told : taken_of a ≡ turn_of x number
    told = takes.answer ∙ same_answer

    lists_are : new ≡ (lent_after x number).lists
    lists_are = takes.lists ∙ ap (λ (o : Outcome Turn). lists_by o (eight ys) lists) same_answer ∙ lists_after

  -- a turn that is refused leaves the rows
  pub turn_stopped : {z : Refusal} {new : List ℕ} → TakesTurn (eight ys) n number lists (Err z) new
      → Turns x number (Err z) (record { rows = ys; lists = new })
  turn_stopped {z} takes =
      let law = turn_law x takes.bytes number in
      let rows_stay = sym (ap (λ (y : Lent). y.rows) (law.refusal (code_of z) (sym (told takes)))) in
      record {
        answer = told takes;
        lent = λ j. record { rows = rows_stay j; lists = lists_are takes j };
        law = law;
        turns = turns_law x takes.bytes number;
      }

  module _ {t : TurnTaken} {new : List ℕ} (takes : TakesTurn (eight ys) n number lists (Ok t) new) where
    stored_is : t.stored ≡ stored_by (turn_of x number) (eight ys) lists
    stored_is = takes.stored t refl ∙ ap (λ (o : Outcome Turn). stored_by o (eight ys) lists) same_answer

    -- a row is stored where there is one, and there are eight at most
    pub stored_inside : {k : ℕ} {r : Room} → t.stored ≡ Some (k, r) → (k < n) × (n ≤ most_rooms)
    stored_inside {k} {r} is = place (turn_of x number) refl (sym is ∙ stored_is)
      where
        place : (o : Outcome Turn) → turn_of x number ≡ o → Some (k, r) ≡ stored_by o (eight ys) lists → (k < n) × (n ≤ most_rooms)
        place (answered (took j said next)) e q =
            let law = turn_law x takes.bytes number in
            rw (one_place q) ((law.taken j said next e).is_next.inside, (law.fits (took j said next) e).few)
        place (answered (none_unfinished used)) e q = absurd (no_place q)
        place (refused c) e q = absurd (no_place q)

    -- the turn taken, and the row stored, are the turn
    pub turn_lent : {stored : Option (ℕ × Room)} → t.stored ≡ stored
        → Turns x number (Ok t.turn) (record { rows = rows_with stored ys; lists = new })
    turn_lent is =
        let rows_are = ap (λ (s : Option (ℕ × Room)). rows_with s ys) (sym is ∙ stored_is) ∙ rows_after in
        record {
          answer = told takes;
          lent = λ j. record { rows = rows_are j; lists = lists_are takes j };
          law = turn_law x takes.bytes number;
          turns = turns_law x takes.bytes number;
        }

-- more than eight rooms, or the first n of eight rows held by value
module _ (held : List Room) (n number : ℕ) (old : List ℕ) where
  pub held_many : most_rooms < n → (a : HeldAnswer) → a ≡ record { rows = held; answer = Err (RoomCount n) }
      → TurnsHeld held n old number a old
  held_many h a is = record { few = λ few. absurd (omega (arith, h, few)); many = λ _. (is, refl) }

  pub held_first : n ≤ most_rooms → (a : HeldAnswer) (new : List ℕ) → TurnsFirst held n old number a new → TurnsHeld held n old number a new
  held_first few a new first = record { few = λ _. first; many = λ h. absurd (omega (arith, h, few)) }
