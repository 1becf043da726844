-- The first 966 bytes of an input decide how it is read: the entries end by place 965, so in a longer input bytes are left over if no
-- other row holds.
-- Assumes nothing.
use mathlib.Core.Path.{◌≡◌, refl, ap}
use mathlib.Core.Bool.{Bool, true, false, cond}
use mathlib.Core.List.{List}
use Prim.Native.Nat.{ℕ, zero, suc, ◌+◌, ◌*◌, ◌≤◌, ◌<◌}
use native.Mathlib.Omega.{arith}
use borrow.Author.Tests.{ltb-false, lt-ltb, le-ltb, ne_eqb, leb-true, leb-false}
use lib.Dec.{ltb, leb}
use lib.ListN.{length, get_or, take, drop, length-take, length-drop}
use lib.Seq.{take_all, get_or-take, get_or-drop}
use Rattle.format.specs.LittleEndian.{u16_at, u32_at}
use Rattle.format.specs.Maps.{bit, r_place, d_place, p_place, size_of}
use Rattle.format.specs.EntryFields.{entry_at, fields_entry, entry_of}
use Rattle.list.specs.Checks.{header_fault, opening_fault}
use Rattle.format.specs.Headers.{opening_written, count_of, frame_of, entries_place, zero_written}
use Rattle.format.specs.Reading.{entries_from, entries_read, body_of, opened_of, decode_of, read_of}
use Rattle.format.specs.Laws.{PlaceIn, LengthLaw}
use Rattle.format.specs.Writing.{read_limit}
use Rattle.list.specs.declared.types.Frame.{Frame}
use Rattle.format.specs.declared.map.Fields.{Fields}
use Rattle.format.proofs.LongestList.{longest, longest_reached}
use Rattle.format.proofs.Places.{r_place_small, d_place_small, p_place_small}
use Rattle.base.proofs.Inversion.{Says, Anything, by_row, by_step, says_refusal, same_after}
use Rattle.list.specs.Laws.{Header, OpensIn}
use Rattle.list.proofs.Sound.{header_says, opening_says}
use Rattle.format.proofs.HeaderTrip.{header_short}
use Rattle.format.proofs.EntryTrip.{TakenEntry, entry_says}
use Rattle.format.proofs.ListTrip.{TakenEntries, entries_say}

-- two inputs that have the same first n bytes
record Agree (n : ℕ) (xs ys : List ℕ) : Type 0 where
  left : n ≤ length xs
  right : n ≤ length ys
  byte : (i : ℕ) → i < n → get_or xs i 0 ≡ get_or ys i 0

module _ {n : ℕ} {xs ys : List ℕ} (a : Agree n xs ys) where
  agree_drop : (k rest : ℕ) → k + rest ≤ n → Agree rest (drop k xs) (drop k ys)
  agree_drop k rest h =
      record {
        left = omega (arith, length-drop k xs);
        right = omega (arith, length-drop k ys);
        byte = λ i l. simp get_or-drop (a.byte (k + i) (omega arith));
      }

  u16_same : (i : ℕ) → i + 2 ≤ n → u16_at xs i ≡ u16_at ys i
  u16_same i h = rw (a.byte i (omega arith), a.byte (i + 1) (omega arith))

  u32_same : (i : ℕ) → i + 4 ≤ n → u32_at xs i ≡ u32_at ys i
  u32_same i h = omega (arith, u16_same i (omega arith), u16_same (i + 2) (omega arith))

  -- an entry lies in 15 bytes
  module _ (f : Frame) (at : ℕ) (h : 15 ≤ n) where
    entry_at_same : (m : Fields) → entry_at f m xs ≡ entry_at f m ys
    unfolding entry_at
    entry_at_same m =
        rw (
          u32_same 1 (omega arith),
          u32_same 5 (omega arith),
          u16_same (r_place m) (omega (arith, r_place_small m)),
          u16_same (d_place m) (omega (arith, d_place_small m)),
          u16_same (p_place m) (omega (arith, p_place_small m)),
        )

    fields_same : (m : Fields) → fields_entry f at m xs ≡ fields_entry f at m ys
    unfolding fields_entry
    fields_same m =
        let p : size_of m ≤ length xs = omega (arith, p_place_small m) in
        let q : size_of m ≤ length ys = omega (arith, p_place_small m) in
        rw entry_at_same (simp (le-ltb _ _ p, le-ltb _ _ q))

    entry_same : entry_of f at xs ≡ entry_of f at ys
    unfolding entry_of
    entry_same =
        let p : length xs ≡ 0 → ⊥ = omega arith in
        let q : length ys ≡ 0 → ⊥ = omega arith in
        rw (a.byte 0 (omega arith)) (simp (ne_eqb _ _ p, ne_eqb _ _ q, fields_same))

entries_same : (f : Frame) (k at : ℕ) {xs ys : List ℕ} → Agree (15 * k) xs ys → entries_from f k at xs ≡ entries_from f k at ys
unfolding entries_from
entries_same f zero at a = refl
entries_same f (suc k) at {ys = ys} a =
    rw (entry_same a f at (omega arith))
    (same_after (TakenEntry f ys) (PlaceIn _) (entry_of f at ys) _ _ (entry_says f at ys _ refl)
    (λ x one. rw (entries_same f k (at + x.1) (agree_drop a x.1 (15 * k) (omega arith)))))

module _ {xs ys : List ℕ} (a : Agree read_limit xs ys) where
  abbrev f : Frame
  f = frame_of ys

  abbrev n : ℕ
  n = count_of ys

  abbrev from : ℕ
  from = entries_place ys

  -- the count byte is the same, and so is what it says
  count_same : get_or xs 2 0 ≡ get_or ys 2 0
  count_same = a.byte 2 (omega arith)

  frame_same : frame_of xs ≡ f
  frame_same =
      λ j. record { h = u16_same a 0 (omega arith) j; opening = cond (bit 7 (count_same j)) (u16_same a 3 (omega arith) j) 0 }

  from_short : from ≤ 5
  from_short = header_short (opening_written ys)

  -- the entries end by place 965, so bytes are left over in both
  body_same : n ≤ 64 → body_of xs ≡ body_of ys
  unfolding body_of
  body_same room =
      let all : from + length (drop from ys) ≡ length ys = omega (arith, from_short, length-drop from ys) in
      rw (frame_same, count_same, entries_same f n from (agree_drop a from (15 * n) (omega (arith, from_short))))
      (same_after (TakenEntries f n (drop from ys) (length ys)) (PlaceIn (length ys)) (entries_read ys n) _ _
      (entries_say f n from (drop from ys) (length ys) all)
      (λ x es.
      let p : x.1 < length xs = omega (arith, from_short) in
      let q : x.1 < length ys = omega (arith, from_short) in
      simp (lt-ltb _ _ p, lt-ltb _ _ q)))

  opened_same : n ≤ 64 → opened_of xs ≡ opened_of ys
  unfolding opened_of
  opened_same room =
      let p : from ≤ length xs = omega (arith, from_short) in
      let q : from ≤ length ys = omega (arith, from_short) in
      rw (frame_same, count_same, u16_same a 3 (omega arith), le-ltb _ _ p, le-ltb _ _ q, body_same room) refl

  decode_same : decode_of xs ≡ decode_of ys
  unfolding decode_of
  decode_same =
      let p : 3 ≤ length xs = omega arith in
      let q : 3 ≤ length ys = omega arith in
      rw (u16_same a 0 (omega arith), count_same, le-ltb _ _ p, le-ltb _ _ q)
      (same_after (λ _. Header f.h n) Anything (header_fault 2 f.h n) _ _ (header_says 2 f.h n Anything tt tt)
      (λ _ h. opened_same h.room))

  -- so those rows leave no list
  body_over : n ≤ 64 → Says (λ _. ⊥) Anything (body_of ys)
  unfolding body_of
  body_over room =
      let all : from + length (drop from ys) ≡ length ys = omega (arith, from_short, length-drop from ys) in
      let Taken = TakenEntries f n (drop from ys) (length ys) in
      let o = entries_read ys n in
      by_step Taken Anything (λ _. ⊥) o _
      (says_refusal Taken (PlaceIn (length ys)) Anything o (λ _ _. tt) (entries_say f n from (drop from ys) (length ys) all))
      (λ x es. by_row (λ _. ⊥) Anything (ltb x.1 (length ys)) _ _ (λ _. tt)
      (λ t. let z : length ys ≤ x.1 = ltb-false _ _ t in omega (arith, from_short)))

  opened_over : n ≤ 64 → Says (λ _. ⊥) Anything (opened_of ys)
  unfolding opened_of
  opened_over room =
      by_row (λ _. ⊥) Anything (ltb (length ys) from) _ _ (λ _. tt)
      (λ _. by_row (λ _. ⊥) Anything (zero_written ys) _ _ (λ _. tt)
      (λ _. by_step (λ _. OpensIn f) Anything (λ _. ⊥) (opening_fault 3 f) _ (opening_says 3 f Anything (λ _. tt)) (λ _ _. body_over room)))

  decode_over : Says (λ _. ⊥) Anything (decode_of ys)
  unfolding decode_of
  decode_over =
      by_row (λ _. ⊥) Anything (ltb (length ys) 3) _ _ (λ _. tt)
      (λ _. by_step (λ _. Header f.h n) Anything (λ _. ⊥) (header_fault 2 f.h n) _ (header_says 2 f.h n Anything tt tt)
      (λ _ h. opened_over h.room))

  read_same : read_of xs ≡ read_of ys
  unfolding read_of
  read_same = rw decode_same (same_after (λ _. ⊥) Anything (decode_of ys) _ _ decode_over (λ l none. absurd none))

-- an input is read as its first 966 bytes are
pub first_bytes : (bs : List ℕ) → read_of (take read_limit bs) ≡ read_of bs
first_bytes bs = go (leb (length bs) read_limit) refl
  where
    go : (t : Bool) → leb (length bs) read_limit ≡ t → read_of (take read_limit bs) ≡ read_of bs
    go true e = ap read_of (take_all read_limit bs (leb-true _ _ e))
    go false e =
        let long : read_limit < length bs = leb-false _ _ e in
        let taken = length-take read_limit bs in
        read_same (record { left = omega (arith, taken); right = omega arith; byte = λ i l. get_or-take read_limit bs i 0 l })

pub length_law : LengthLaw
length_law = record { longest = longest; reached = longest_reached; first_bytes = first_bytes }
