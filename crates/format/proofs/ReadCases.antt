-- Reading a list, case by case: what code knows before, after and between the entries.
-- Assumes nothing.
use mathlib.Core.Path.{◌≡◌, refl, sym, ap, ◌∙◌}
use mathlib.Core.Bool.{true, false}
use mathlib.Core.List.{List, [], ◌∷◌, ◌++◌, append_assoc, append-nil}
use Prim.Native.Nat.{ℕ, suc, ◌+◌, ◌-◌, ◌≤◌, ◌<◌}
use native.Mathlib.Nat.{sub-zero}
use native.Mathlib.Numerals.{add-one}
use native.Mathlib.Omega.{arith}
use borrow.Author.Tests.{lt-ltb, le-ltb, eq-eqb, ne_eqb}
use lib.Dec.{ltb}
use lib.ListN.{length, take, drop, set, replicate, length-take, length-drop, length-set}
use lib.Seq.{take_all, take-suc-set, drop-drop}
use Rattle.base.specs.Outcomes.{Code, code, Outcome, answered, refused, row, first_of, and_then}
use Rattle.format.specs.LittleEndian.{u16_at}
use Rattle.format.specs.EntryFields.{entry_of}
use Rattle.list.specs.DayLists.{blank, day_list, entries_of}
use Rattle.list.specs.Clashes.{first_clash}
use Rattle.list.specs.Checks.{header_fault, opening_fault}
use Rattle.format.specs.Headers.{opening_written, count_of, frame_of, entries_place, zero_written}
use Rattle.format.specs.Reading.{entries_from, body_of, opened_of, decode_of, map_place, read_of}
use Rattle.list.specs.declared.types.Entry.{Entry}
use Rattle.list.specs.declared.types.Frame.{Frame}
use Rattle.list.specs.declared.types.DayList.{DayList}
use Rattle.format.proofs.EntryTrip.{TakenEntry, entry_says}
use Rattle.list.proofs.Sound.{opening_passes}
use Rattle.list.proofs.Filling.{blank_after, filled_list}

-- the entries es in front of those that are still to come
abbrev pub before : List Entry → Outcome (List Entry × ℕ) → Outcome (List Entry × ℕ)
before es o = and_then o (λ more. answered (es ++ more.0, more.1))

-- one entry, and k more after it
abbrev one_more : Frame → ℕ → ℕ → List ℕ → Outcome (List Entry × ℕ)
one_more f k at bs =
    and_then (entry_of f at bs)
    (λ one. and_then (entries_from f k (at + one.1) (drop one.1 bs)) (λ more. answered (one.0 ∷ more.0, more.1)))

-- of n entries that begin at place from, i were read, up to place at
pub record SoFar (f : Frame) (n : ℕ) (bs : List ℕ) (from : ℕ) (entries : List Entry) (at i : ℕ) : Type 0 where
  pub passed : i ≤ n
  pub inside : at ≤ length bs
  pub long : length entries ≡ 64
  pub unused : drop i entries ≡ replicate (64 - i) blank
  pub rest : entries_from f n from (drop from bs) ≡ before (take i entries) (entries_from f (n - i) at (drop at bs))

pub before_nothing : (o : Outcome (List Entry × ℕ)) → o ≡ before [] o
before_nothing (answered p) = refl
before_nothing (refused k) = refl

before_one : (es : List Entry) (e : Entry) (o : Outcome (List Entry × ℕ))
    → before es (and_then o (λ more. answered (e ∷ more.0, more.1))) ≡ before (es ++ (e ∷ [])) o
before_one es e (answered p) = ap (λ (l : List Entry). answered (l, p.1)) (sym (append_assoc es (e ∷ []) p.0))
before_one es e (refused k) = refl

pub start : (f : Frame) (n : ℕ) (bs : List ℕ) (from : ℕ) → from ≤ length bs → SoFar f n bs from (replicate 64 blank) from 0
start f n bs from h =
    record {
      passed = omega arith;
      inside = h;
      long = refl;
      unused = refl;
      rest = rw sub-zero (before_nothing _);
    }

-- what is left from place at on, as code lends it
rest_lent : (bs : List ℕ) (at : ℕ) → take (length bs - at) (drop at bs) ≡ drop at bs
rest_lent bs at = take_all (length bs - at) (drop at bs) (omega (arith, length-drop at bs))

-- what code reads of the next entry
abbrev pub Here : Frame → ℕ → List ℕ → Outcome (Entry × ℕ) → Type 0
Here f at bs o = o ≡ entry_of f at (take (length bs - at) (drop at bs))

read_here : (f : Frame) (at : ℕ) (bs : List ℕ) (o : Outcome (Entry × ℕ)) → Here f at bs o → entry_of f at (drop at bs) ≡ o
read_here f at bs o q = rw (rest_lent bs at) at (sym q)

-- an entry that was taken lies inside the input
pub size_here : (f : Frame) (at : ℕ) (bs : List ℕ) {e : Entry} {size : ℕ} → at ≤ length bs → Here f at bs (answered (e, size))
    → at + size ≤ length bs
size_here f at bs {e} {size} h q =
    let rest = drop at bs in
    let taken : TakenEntry f rest (e, size) = rw (read_here f at bs _ q) at (entry_says f at rest _ refl) in
    omega (arith, taken.within, length-drop at bs)

module _ {f : Frame} {n : ℕ} {bs : List ℕ} {from : ℕ} {entries : List Entry} {at i : ℕ} (s : SoFar f n bs from entries at i) where
  turn : i < n → entries_from f n from (drop from bs) ≡ before (take i entries) (one_more f (n - (i + 1)) at (drop at bs))
  unfolding entries_from
  turn h = let q : n - i ≡ suc (n - (i + 1)) = omega arith in s.rest ∙ rw q

  pub entry_refused : {k : Code} → i < n → Here f at bs (refused k) → entries_from f n from (drop from bs) ≡ refused k
  entry_refused h q = rw (turn h, read_here f at bs _ q)

  pub next : (e : Entry) (size : ℕ) → n ≤ 64 → i < n → Here f at bs (answered (e, size)) → SoFar f n bs from (set entries i e) (at + size) (i + 1)
  next e size room h q =
      record {
        passed = omega arith;
        inside = size_here f at bs s.inside q;
        long = length-set entries i e ∙ s.long;
        unused = blank_after entries i e (omega arith) s.unused;
        rest = turn h ∙ rest_after;
      }
    where
      taken : take (i + 1) (set entries i e) ≡ take i entries ++ (e ∷ [])
      taken = rw add-one (take-suc-set entries i e (omega (arith, s.long)))

      rest_after : before (take i entries) (one_more f (n - (i + 1)) at (drop at bs))
          ≡ before (take (i + 1) (set entries i e)) (entries_from f (n - (i + 1)) (at + size) (drop (at + size) bs))
      rest_after =
          rw (read_here f at bs _ q, taken, ← drop-drop size at bs)
          (before_one (take i entries) e (entries_from f (n - (i + 1)) (at + size) (drop size (drop at bs))))

  pub done : n ≤ i → entries_from f n from (drop from bs) ≡ answered (take i entries, at)
  unfolding entries_from
  done h =
      let z : n - i ≡ 0 = omega arith in
      s.rest ∙ rw z (ap (λ (l : List Entry). answered (l, at)) (append-nil (take i entries)))

  pub list_read : n ≤ 64 → n ≤ i → record { frame = f; n = n; entries = entries } ≡ day_list f (take i entries)
  list_read room h =
      let z : i ≡ n = omega (arith, s.passed) in
      let k : length (take i entries) ≡ n = simp length-take (omega (arith, s.long, s.passed)) in
      filled_list f n (take i entries) entries k (rw z) (rw z at s.unused)

-- after the entries: row 8, or the list
module _ (bs : List ℕ) (f : Frame) (n from : ℕ) (p : f ≡ frame_of bs) (q : n ≡ count_of bs) (s : from ≡ entries_place bs) where
  body : body_of bs
      ≡ and_then (entries_from f n from (drop from bs))
      (λ all. first_of (row 8 (ltb all.1 (length bs)) all.1 ∷ []) (answered (day_list f all.0)))
  unfolding body_of
  body = rw (p, q, s)

  pub body_refused : (k : Code) → entries_from f n from (drop from bs) ≡ refused k → body_of bs ≡ refused k
  body_refused k e = rw (body, e)

  pub body_left : (es : List Entry) (end : ℕ) → entries_from f n from (drop from bs) ≡ answered (es, end) → end < length bs
      → body_of bs ≡ refused (code 8 (end ∷ []))
  body_left es end e h = rw (body, e) (simp (lt-ltb _ _ h))

  pub body_done : (es : List Entry) (end : ℕ) → entries_from f n from (drop from bs) ≡ answered (es, end) → length bs ≤ end
      → body_of bs ≡ answered (day_list f es)
  body_done es end e h = rw (body, e) (simp (le-ltb _ _ h))

-- the header: rows 1 to 3
module _ (bs : List ℕ) where
  pub decode_short : length bs < 3 → decode_of bs ≡ refused (code 1 (length bs ∷ []))
  unfolding decode_of
  decode_short h = simp (lt-ltb _ _ h)

  module _ (long : 3 ≤ length bs) (h : ℕ) (is : h ≡ u16_at bs 0) where
    pub decode_header : {k : Code} → refused k ≡ header_fault 2 h (count_of bs) → refused k ≡ decode_of bs
    unfolding decode_of
    decode_header w = simp (le-ltb _ _ long, ← is, sym w)

    pub decode_opened : answered tt ≡ header_fault 2 h (count_of bs) → opened_of bs ≡ decode_of bs
    unfolding decode_of
    decode_opened w = simp (le-ltb _ _ long, ← is, sym w)

  -- the rows of an opening minute
  pub opened_short : length bs < entries_place bs → opened_of bs ≡ refused (code 1 (length bs ∷ []))
  unfolding opened_of
  opened_short h = simp (lt-ltb _ _ h)

  module _ (h : entries_place bs ≤ length bs) where
    pub opened_zero : zero_written bs ≡ true → opened_of bs ≡ refused (code 15 (3 ∷ []))
    unfolding opened_of
    opened_zero z = simp (le-ltb _ _ h, z)

    module _ (kept : zero_written bs ≡ false) (f : Frame) (p : f ≡ frame_of bs) where
      pub opened_refused : {k : Code} → refused k ≡ opening_fault 3 f → refused k ≡ opened_of bs
      unfolding opened_of
      opened_refused w = rw (← p) (simp (le-ltb _ _ h, kept, sym w))

      pub opened_body : answered tt ≡ opening_fault 3 f → opened_of bs ≡ body_of bs
      unfolding opened_of
      opened_body w = rw (← p) (simp (le-ltb _ _ h, kept, sym w))

-- the opening minute, as code reads it: written,
module _ (bs : List ℕ) (w : opening_written bs ≡ true) where
  pub written_place : 5 ≡ entries_place bs
  written_place = rw w refl

  pub written_frame : (h opening : ℕ) → h ≡ u16_at bs 0 → opening ≡ u16_at bs 3 → record { h = h; opening = opening } ≡ frame_of bs
  written_frame h opening p q = rw (w, p, q) refl

  pub written_zero : u16_at bs 3 ≡ 0 → zero_written bs ≡ true
  written_zero z = rw w (eq-eqb _ _ z)

  pub written_kept : (u16_at bs 3 ≡ 0 → ⊥) → zero_written bs ≡ false
  written_kept z = rw w (ne_eqb _ _ z)

-- and not written
module _ (bs : List ℕ) (w : opening_written bs ≡ false) where
  pub unwritten_place : 3 ≡ entries_place bs
  unwritten_place = rw w refl

  pub unwritten_frame : (h : ℕ) → h ≡ u16_at bs 0 → record { h = h; opening = 0 } ≡ frame_of bs
  unwritten_frame h p = rw (w, p) refl

  pub opened_unwritten : 3 ≤ length bs → (h : ℕ) → h ≡ u16_at bs 0 → 0 < h → opened_of bs ≡ body_of bs
  opened_unwritten long h p some =
      let f : Frame = record { h = h; opening = 0 } in
      opened_body bs (rw (← unwritten_place) long) (rw w refl) f (unwritten_frame h p) (sym (opening_passes 3 f some))

-- row 14, or the list
module _ (bs : List ℕ) where
  pub read_decoded : {k : Code} → refused k ≡ decode_of bs → refused k ≡ read_of bs
  unfolding read_of
  read_decoded e = rw (← e) refl

  module _ (l : DayList) (decoded : answered l ≡ decode_of bs) (entry count : ℕ) (is : entry ≡ first_clash (entries_of l))
      (all : length (entries_of l) ≡ count) where
    pub read_clash : entry < count → refused (code 14 (map_place bs entry ∷ [])) ≡ read_of bs
    unfolding read_of
    read_clash h = rw (← decoded, ← is, all, lt-ltb entry count h) refl

    pub read_list : count ≤ entry → answered l ≡ read_of bs
    unfolding read_of
    read_list h = rw (← decoded, ← is, all, le-ltb entry count h) refl
