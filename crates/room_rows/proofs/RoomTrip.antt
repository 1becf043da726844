-- The rooms that numbers say, by their places, and with one room's numbers stored.
-- Assumes nothing.
use mathlib.Core.Path.{◌≡◌, refl, sym, ap, ◌∙◌}
use mathlib.Core.List.{List}
use Prim.Native.Nat.{ℕ, zero, suc, ◌+◌, ◌*◌, ◌/◌, ◌<◌, ◌≤◌}
use native.Mathlib.Omega.{arith}
use lib.ListN.{length, get_or, set, length-set, get_or-eq_default}
use lib.Seq.{sets, length-sets, get_or-set_same, get_or-set_other, ext_get_or}
use Rattle.base.proofs.Sums.{eq_or_ne}
use Rattle.rooms.specs.Turns.{no_row}
use Rattle.rooms.specs.declared.types.Stage.{Stage}
use Rattle.rooms.specs.declared.types.Stage.TheVariants.{Fresh, Begun, Settled, Refused}
use Rattle.rooms.specs.declared.types.Room.{Room}
use Rattle.room_rows.specs.RoomRows.{room_numbers, stage_number, stage_of, room_row, room_at, rooms_from, rooms_in}

from_count : (k i : ℕ) (xs : List ℕ) → length (rooms_from k i xs) ≡ k
unfolding rooms_from
from_count zero i xs = refl
from_count (suc k) i xs = ap suc (from_count k (i + 1) xs)

from_at : (k i : ℕ) (xs : List ℕ) (j : ℕ) → j < k → get_or (rooms_from k i xs) j no_row ≡ room_at xs (room_numbers * (i + j))
unfolding rooms_from
from_at zero i xs j h = absurd (omega arith)
from_at (suc k) i xs zero h = let z : i ≡ i + 0 = omega arith in ap (λ (n : ℕ). room_at xs (room_numbers * n)) z
from_at (suc k) i xs (suc j) h =
    let z : i + 1 + j ≡ i + suc j = omega arith in
    from_at k (i + 1) xs j (omega arith) ∙ ap (λ (n : ℕ). room_at xs (room_numbers * n)) z

module _ (xs : List ℕ) where
  pub rooms_count : length (rooms_in xs) ≡ length xs / room_numbers
  unfolding rooms_in
  rooms_count = from_count (length xs / room_numbers) 0 xs

  pub room_inside : (i : ℕ) → i < length xs / room_numbers → room_at xs (room_numbers * i) ≡ get_or (rooms_in xs) i no_row
  unfolding rooms_in
  room_inside i h =
      let z : 0 + i ≡ i = omega arith in
      sym (from_at (length xs / room_numbers) 0 xs i h ∙ ap (λ (n : ℕ). room_at xs (room_numbers * n)) z)

  pub room_past : (i : ℕ) → length xs / room_numbers ≤ i → no_row ≡ get_or (rooms_in xs) i no_row
  room_past i h = sym (get_or-eq_default (rooms_in xs) no_row (omega (arith, h, rooms_count)))

-- a stage's number says the stage
stage_back : (s : Stage) → stage_of (stage_number s) ≡ s
stage_back Fresh = refl
stage_back Begun = refl
stage_back Settled = refl
stage_back Refused = refl

-- the numbers of room k stored
module _ (xs : List ℕ) (k : ℕ) (r : Room) (h : k < length xs / room_numbers) where
  abbrev at : ℕ
  at = room_numbers * k

  abbrev new : List ℕ
  new = sets xs at (room_row r)

  abbrev one : List ℕ
  one = set xs at (stage_number r.stage)

  abbrev two : List ℕ
  two = set one (suc at) r.rounds

  room : at + 3 ≤ length xs
  room = omega arith

  first : get_or new at 0 ≡ stage_number r.stage
  first =
      get_or-set_other two (suc (suc at)) at r.moves 0 (omega arith)
      ∙ get_or-set_other one (suc at) at r.rounds 0 (omega arith)
      ∙ get_or-set_same xs at (stage_number r.stage) 0 (omega (arith, room))

  second : get_or new (at + 1) 0 ≡ r.rounds
  second =
      let z : at + 1 ≡ suc at = omega arith in
      ap (λ (i : ℕ). get_or new i 0) z
      ∙ get_or-set_other two (suc (suc at)) (suc at) r.moves 0 (omega arith)
      ∙ get_or-set_same one (suc at) r.rounds 0 (omega (arith, room, length-set xs at (stage_number r.stage)))

  third : get_or new (at + 2) 0 ≡ r.moves
  third =
      let z : at + 2 ≡ suc (suc at) = omega arith in
      ap (λ (i : ℕ). get_or new i 0) z
      ∙ get_or-set_same two (suc (suc at)) r.moves 0
      (omega (arith, room, length-set one (suc at) r.rounds, length-set xs at (stage_number r.stage)))

  room_same : room_at new at ≡ r
  room_same = λ j. record { stage = (ap stage_of first ∙ stage_back r.stage) j; rounds = second j; moves = third j }

  number_other : (i : ℕ) → (i ≡ at → ⊥) → (i ≡ suc at → ⊥) → (i ≡ suc (suc at) → ⊥) → get_or new i 0 ≡ get_or xs i 0
  number_other i a b c =
      get_or-set_other two (suc (suc at)) i r.moves 0 c
      ∙ get_or-set_other one (suc at) i r.rounds 0 b
      ∙ get_or-set_other xs at i (stage_number r.stage) 0 a

  room_other : (j : ℕ) → (j ≡ k → ⊥) → room_at new (room_numbers * j) ≡ room_at xs (room_numbers * j)
  room_other j ne =
      let i = room_numbers * j in
      let a = number_other i (omega (arith, ne)) (omega (arith, ne)) (omega (arith, ne)) in
      let b = number_other (i + 1) (omega (arith, ne)) (omega (arith, ne)) (omega (arith, ne)) in
      let c = number_other (i + 2) (omega (arith, ne)) (omega (arith, ne)) (omega (arith, ne)) in
      λ t. record { stage = stage_of (a t); rounds = b t; moves = c t }

  count_same : length new / room_numbers ≡ length xs / room_numbers
  count_same = ap (λ (n : ℕ). n / room_numbers) (length-sets xs at (room_row r))

  each : (j : ℕ) → j < length xs / room_numbers → get_or (rooms_in new) j no_row ≡ get_or (set (rooms_in xs) k r) j no_row
  each j l =
      let below : j < length new / room_numbers = omega (arith, count_same) in
      sym (room_inside new j below)
      ∙ eq_or_ne j k
      (λ e. rw e (room_same ∙ sym (get_or-set_same (rooms_in xs) k r no_row (omega (arith, rooms_count xs)))))
      (λ ne. room_other j ne ∙ room_inside xs j l ∙ sym (get_or-set_other (rooms_in xs) k j r no_row ne))

  -- they say the same rooms, with this one for room k
  pub rooms_stored : rooms_in new ≡ set (rooms_in xs) k r
  rooms_stored =
      ext_get_or no_row (rooms_in new) (set (rooms_in xs) k r)
      (rooms_count new ∙ count_same ∙ sym (rooms_count xs) ∙ sym (length-set (rooms_in xs) k r))
      (λ j l. each j (omega (arith, l, rooms_count new, count_same)))
