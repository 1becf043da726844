-- The header, both ways: it is read back from its one form, and bytes that are taken are the one form of the header read.
-- Assumes nothing.
use mathlib.Core.Path.{◌≡◌, refl, sym, ap, ◌∙◌}
use mathlib.Core.Bool.{Bool, true, false, cond, not-and_self}
use mathlib.Core.List.{List, ◌∷◌, ◌++◌, append_assoc}
use Prim.Native.Nat.{ℕ, ◌+◌, ◌/◌, ◌%◌, ◌≤◌, ◌<◌}
use native.Mathlib.Omega.{arith}
use borrow.Author.Tests.{eqb-true, eqb-false, eq-eqb, ne_eqb}
use lib.Dec.{eqb}
use lib.ListN.{length, get_or, drop}
use Rattle.list.specs.Machine.{Bytes}
use Rattle.list.specs.declared.types.Frame.{Frame}
use Rattle.format.specs.LittleEndian.{u16_at, u16_bytes}
use Rattle.format.specs.Maps.{bit}
use Rattle.format.specs.Forms.{minute_bytes}
use Rattle.format.specs.Headers.{opening_written, count_of, frame_of, header_size, entries_place, zero_written}
use Rattle.format.specs.Headers.{opens_later, count_byte, header_bytes}
use Rattle.format.proofs.FieldTrip.{past_field, u16_back, byte_stands, u16_stands, minute_read, written_again, minute_stands}
use Rattle.format.proofs.FormCases.{minute_length}

pub header_length : (f : Frame) (n : ℕ) → length (header_bytes f n) ≡ header_size (opens_later f)
unfolding header_bytes
header_length f n = simp minute_length (omega arith)

pub header_short : (t : Bool) → header_size t ≤ 5
header_short true = omega arith
header_short false = omega arith

-- the count byte, read back
count_bit : (t : Bool) (n : ℕ) → n < 128 → bit 7 (count_byte t n) ≡ t
count_bit true n h = let z : (n + 128) / 128 % 2 ≡ 1 = omega arith in eq-eqb _ _ z
count_bit false n h = let z : (n + 0) / 128 % 2 ≡ 1 → ⊥ = omega arith in ne_eqb _ _ z

count_back : (t : Bool) (n : ℕ) → n < 128 → count_byte t n % 128 ≡ n
count_back true n h = omega arith
count_back false n h = omega arith

-- and from what was read
count_again : (b : ℕ) → b < 256 → (t : Bool) → bit 7 b ≡ t → count_byte t (b % 128) ≡ b
count_again b h true e = let z : b / 128 % 2 ≡ 1 = eqb-true _ _ e in omega (arith, z)
count_again b h false e = let z : b / 128 % 2 ≡ 1 → ⊥ = eqb-false _ _ e in omega (arith, z)

-- a header's one form with bytes after it
abbrev form_before : Frame → ℕ → List ℕ → List ℕ
form_before f n rest = u16_bytes f.h ++ (count_byte (opens_later f) n ∷ (minute_bytes (opens_later f) f.opening ++ rest))

form_before_lem : (f : Frame) (n : ℕ) (rest : List ℕ) → header_bytes f n ++ rest ≡ form_before f n rest
unfolding header_bytes
form_before_lem f n rest = simp append_assoc

-- what is read of such bytes: the header, and where the bytes after it begin
pub record HeaderBack (f : Frame) (n : ℕ) (rest bs : List ℕ) : Type 0 where
  pub frame : f ≡ frame_of bs
  pub count : n ≡ count_of bs
  pub kept : zero_written bs ≡ false
  pub place : entries_place bs ≡ header_size (opens_later f)
  pub after : drop (entries_place bs) bs ≡ rest

pub header_back : (f : Frame) (n : ℕ) (rest : List ℕ) → f.h < 65536 → f.opening < 65536 → n < 128
    → HeaderBack f n rest (header_bytes f n ++ rest)
header_back f n rest day opens few =
    let tail = minute_bytes (opens_later f) f.opening ++ rest in
    let bs = form_before f n rest in
    let later : opening_written bs ≡ opens_later f = count_bit (opens_later f) n few in
    let minute : f.opening ≡ cond (opens_later f) (u16_at bs 3) 0 = minute_read bs 3 f.opening 0 opens _ refl rest refl in
    let at : (frame_of bs).opening ≡ f.opening = rw later (sym minute) in
    rw form_before_lem
    (record {
      frame = sym (λ j. record { h = u16_back f.h (count_byte (opens_later f) n ∷ tail) day j; opening = at j });
      count = sym (count_back (opens_later f) n few);
      kept = rw (later, ← minute) (not-and_self (eqb f.opening 0));
      place = ap header_size later;
      after = rw later (past_field bs 3 (minute_bytes (opens_later f) f.opening) rest _ (minute_length (opens_later f) f.opening) refl);
    })

-- bytes that write no opening minute of 0
module _ (bs : List ℕ) (kept : zero_written bs ≡ false) where
  -- the header read has one again exactly if the bytes had one
  pub later_again : opens_later (frame_of bs) ≡ opening_written bs
  later_again = written_again (opening_written bs) (u16_at bs 3) 0 kept

  -- and its one form stands in front of what follows it
  pub header_stands : Bytes bs → entries_place bs ≤ length bs → bs ≡ header_bytes (frame_of bs) (count_of bs) ++ drop (entries_place bs) bs
  header_stands b long =
      let rest = drop (entries_place bs) bs in
      let n = count_of bs in
      let count : count_byte (opens_later (frame_of bs)) n ≡ get_or bs 2 0 =
      ap (λ (t : Bool). count_byte t n) later_again ∙ count_again (get_or bs 2 0) (b 2) (opening_written bs) refl in
      u16_stands bs b 0 (omega arith)
      ∙ ap (λ (l : List ℕ). u16_bytes (u16_at bs 0) ++ l)
      (byte_stands bs 2 (omega arith) ∙ (λ j. sym count j ∷ minute_stands bs b 3 (opening_written bs) 0 long kept j))
      ∙ sym (form_before_lem (frame_of bs) n rest)
