-- Rooms and numbers, case by case.
-- Assumes nothing.
use mathlib.Core.Path.{◌≡◌, sym, ◌∙◌}
use mathlib.Core.List.{List, [], ◌∷◌, ◌++◌}
use Prim.Native.Nat.{ℕ, ◌+◌, ◌-◌, ◌*◌, ◌/◌, ◌%◌, ◌<◌, ◌≤◌}
use borrow.Author.Tests.{eq-eqb, ne_eqb}
use lib.ListN.{length, get_or, take, drop}
use lib.Seq.{drop-drop}
use native.Mathlib.Omega.{arith}
use Rattle.std.proofs.Common.{append_assoc}
use Rattle.std.proofs.lemmas.List.Edits.{sets, sets-eq}
use Rattle.base.specs.Outcomes.{code, answered, refused}
use Rattle.rooms.specs.Turns.{no_row}
use Rattle.rooms.specs.declared.types.Stage.{Stage}
use Rattle.room_rows.specs.RoomRows.{room_numbers, stage_of, rooms_in, rooms_fault}
use Rattle.room_rows.proofs.RoomTrip.{room_inside}

-- row 100
module _ (numbers : ℕ) where
  pub fault_none : numbers % room_numbers ≡ 0 → answered tt ≡ rooms_fault numbers
  fault_none e = rw (eq-eqb _ _ e)

  pub fault_over : (numbers % room_numbers ≡ 0 → ⊥) → refused (code 100 ((numbers - numbers % room_numbers) ∷ [])) ≡ rooms_fault numbers
  fault_over ne = rw (ne_eqb _ _ ne)

-- a room read
pub room_read : (xs : List ℕ) (i : ℕ) → i < length xs / room_numbers → (s : Stage) → s ≡ stage_of (get_or xs (room_numbers * i) 0)
    → record { stage = s; rounds = get_or xs (room_numbers * i + 1) 0; moves = get_or xs (room_numbers * i + 2) 0 } ≡ get_or
    (rooms_in xs) i no_row
room_read xs i h s e = rw e (room_inside xs i h)

-- a room stored
pub three_stored : (xs : List ℕ) (at a b c : ℕ) → at + 3 ≤ length xs
    → take at xs ++ ((a ∷ b ∷ c ∷ []) ++ drop ((at + 3) - at) (drop at xs)) ≡ sets xs at (a ∷ b ∷ c ∷ [])
three_stored xs at a b c room =
    let size : (at + 3) - at ≡ 3 = omega arith in
    rw (size, drop-drop 3 at xs) (sym (sets-eq (a ∷ b ∷ c ∷ []) xs at room ∙ append_assoc (take at xs) (a ∷ b ∷ c ∷ []) (drop (at + 3) xs)))
