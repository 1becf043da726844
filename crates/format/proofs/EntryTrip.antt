-- One entry, both ways: a sound entry is read back from its one form, and bytes that are taken are the one form of the entry read.
-- Also what a refusal carries.
-- Assumes nothing.
use mathlib.Core.Path.{◌≡◌, refl, sym, ap, ◌∙◌}
use mathlib.Core.Bool.{Bool, true, false, cond, not, ◌&&◌, not-and_self}
use mathlib.Core.List.{List, [], ◌∷◌, ◌++◌, append_assoc}
use Prim.Native.Nat.{ℕ, ◌+◌, ◌^◌, ◌≤◌, ◌<◌}
use native.Mathlib.Nat.{add-zero}
use native.Mathlib.Omega.{arith}
use borrow.Author.Tests.{ltb-false, eqb-false, not-false}
use lib.Dec.{eqb, ltb}
use lib.ListN.{length, get_or, drop, length-append}
use Rattle.base.specs.Outcomes.{code, answered}
use Rattle.format.specs.LittleEndian.{u16_at, u32_at, u16_bytes, u32_bytes}
use Rattle.format.specs.Maps.{legal_map, fields_of, map_of, r_place, d_place, p_place, size_of, map_fields}
use Rattle.list.specs.Entries.{entry_fault}
use Rattle.format.specs.EntryFields.{default_r, default_d, seal_of, entry_at, entry_of, fields_entry, default_written}
use Rattle.format.specs.Forms.{sealed, fields_in, seal_bytes, minute_bytes, entry_bytes}
use Rattle.format.specs.Laws.{PlaceIn}
use Rattle.list.specs.Machine.{Bytes, SealFits}
use Rattle.std.specs.Prelude.{None, Option, Some}
use Rattle.list.specs.declared.types.Entry.{Entry}
use Rattle.list.specs.declared.types.Frame.{Frame}
use Rattle.format.specs.declared.map.Fields.{Fields}
use Rattle.format.proofs.Places.{p_place_small}
use Rattle.format.proofs.FieldTrip.{past_field, u16_read, u32_read, u32_small, byte_stands, u16_stands, u32_stands}
use Rattle.format.proofs.FieldTrip.{minute_read, written_again, minute_stands}
use Rattle.format.proofs.MapBytes.{map_form, map_back}
use Rattle.base.proofs.Inversion.{Says, by_row, by_step, neither}
use Rattle.format.proofs.CarriedPlaces.{at_end, at_place, at_sixteen}
use Rattle.list.specs.Laws.{Sound}
use Rattle.list.proofs.Sound.{fault_says, faultless}
use Rattle.format.proofs.FormCases.{seal_length, minute_length, entry_length}
use Rattle.format.proofs.EntryCases.{entry_is, entry_legal, fields_taken}

-- an entry's serial and seal fit their bytes
pub record EntryFits (e : Entry) : Type 0 where
  pub serial : e.serial < 2 ^ 32
  pub seal : SealFits e.seal

-- an entry's one form with bytes after it
abbrev form_before : Frame → Entry → List ℕ → List ℕ
form_before f e rest =
    let m = fields_in f e in
    map_of m
    ∷ (u32_bytes e.serial
    ++ (seal_bytes e.seal
    ++ (minute_bytes m.r e.r ++ (minute_bytes m.d e.d ++ (u16_bytes e.p ++ rest)))))

form_before_lem : (f : Frame) (e : Entry) (rest : List ℕ) → entry_bytes f e ++ rest ≡ form_before f e rest
unfolding entry_bytes
form_before_lem f e rest = simp append_assoc

module _ (bs : List ℕ) (i : ℕ) (tail : List ℕ) where
  seal_read : (s : Option ℕ) → SealFits s → drop i bs ≡ seal_bytes s ++ tail → s ≡ seal_of (sealed s) (u32_at bs i)
  seal_read None h e = refl
  seal_read (Some x) h e = ap Some (sym (u32_read bs i x tail h e))

entry_back : (f : Frame) (e : Entry) (rest : List ℕ) → f.h < 65536 → EntryFits e → Sound f e
    → e ≡ entry_at f (fields_in f e) (form_before f e rest)
entry_back f e rest h fits s =
    let m = fields_in f e in
    let bs = form_before f e rest in
    let r_here = past_field bs 5 (seal_bytes e.seal) _ _ (seal_length e.seal) refl in
    let d_here = past_field bs (r_place m) (minute_bytes m.r e.r) _ _ (minute_length m.r e.r) r_here in
    let p_here = past_field bs (d_place m) (minute_bytes m.d e.d) _ _ (minute_length m.d e.d) d_here in
    entry_is f m bs _ _ _ _ _ _ _ _ _ _
    (sym (u32_read bs 1 e.serial _ fits.serial refl))
    (seal_read bs 5 _ e.seal fits.seal refl)
    (minute_read bs (r_place m) e.r (default_r f) (omega arith) _ refl _ r_here) refl refl
    (minute_read bs (d_place m) e.d (default_d f) (omega arith) _ refl _ d_here) refl refl
    (sym (u16_read bs (p_place m) e.p _ (omega arith) p_here)) refl

-- an entry that fits and is sound is read back from its one form, whatever follows
pub entry_reads_back : (f : Frame) (at : ℕ) (e : Entry) (rest : List ℕ) → f.h < 65536 → EntryFits e → Sound f e
    → entry_of f at (entry_bytes f e ++ rest) ≡ answered (e, length (entry_bytes f e))
entry_reads_back f at e rest h fits s =
    let m = fields_in f e in
    let bs = form_before f e rest in
    let size = entry_length f e in
    let long : size_of m ≤ length bs = omega (arith, size, length-append (entry_bytes f e) rest, ap length (form_before_lem f e rest)) in
    let back = entry_back f e rest h fits s in
    rw form_before_lem (sym
    (fields_taken f at m bs e back long (simp not-and_self) (sym (faultless f at e s)) _ size
    ∙ entry_legal f at bs (omega arith) (map_back m at)))

sealed_again : (w : Bool) (x : ℕ) → sealed (seal_of w x) ≡ w
sealed_again true x = refl
sealed_again false x = refl

module _ (bs : List ℕ) (b : Bytes bs) (i : ℕ) where
  seal_stands : (w : Bool) → i + cond w 4 0 ≤ length bs → drop i bs ≡ seal_bytes (seal_of w (u32_at bs i)) ++ drop (i + cond w 4 0) bs
  seal_stands true l = u32_stands bs b i l
  seal_stands false l = simp add-zero

  seal_fits : (w : Bool) → SealFits (seal_of w (u32_at bs i))
  seal_fits true = u32_small bs b i
  seal_fits false = tt

module _ (f : Frame) (m : Fields) (bs : List ℕ) (r_kept : m.r && eqb (entry_at f m bs).r (default_r f) ≡ false)
    (d_kept : m.d && eqb (entry_at f m bs).d (default_d f) ≡ false) where
  fields_again : fields_in f (entry_at f m bs) ≡ m
  unfolding entry_at
  fields_again =
      let r_again = written_again m.r (u16_at bs (r_place m)) (default_r f) r_kept in
      let d_again = written_again m.d (u16_at bs (d_place m)) (default_d f) d_kept in
      rw (sealed_again, r_again, d_again)

  entry_stands : Bytes bs → size_of m ≤ length bs → map_of (fields_in f (entry_at f m bs)) ≡ get_or bs 0 0
      → bs ≡ form_before f (entry_at f m bs) (drop (size_of m) bs)
  unfolding entry_at
  entry_stands b l q =
      byte_stands bs 0 (omega arith)
      ∙ rw (
        q,
        ← u16_stands bs b (p_place m) l,
        ← minute_stands bs b (d_place m) m.d (default_d f) (omega arith) d_kept,
        ← minute_stands bs b (r_place m) m.r (default_r f) (omega arith) r_kept,
        ← seal_stands bs b 5 m.seal (omega arith),
        ← u32_stands bs b 1 (omega arith),
      )

-- what holds of an entry that is taken from the start of the bytes, with its size
pub record TakenEntry (f : Frame) (bs : List ℕ) (x : Entry × ℕ) : Type 0 where
  pub within : x.1 ≤ length bs
  pub some : 1 ≤ x.1
  pub short : x.1 ≤ 15
  pub sound : Sound f x.0
  pub form : Bytes bs → bs ≡ entry_bytes f x.0 ++ drop x.1 bs
  pub fits : Bytes bs → EntryFits x.0

-- bs is what is left, from the place at on, of an input of length len
module _ (f : Frame) (at : ℕ) (bs : List ℕ) (len : ℕ) (all : at + length bs ≡ len) where
  -- the fields and the entry that bs says
  abbrev m : Fields
  m = fields_of (get_or bs 0 0)

  abbrev e : Entry
  e = entry_at f m bs

  taken : legal_map (get_or bs 0 0) ≡ true → size_of m ≤ length bs → default_written f m e ≡ false → Sound f e
      → TakenEntry f bs (e, size_of m)
  unfolding entry_at
  taken legal long w s =
      let z = neither (m.r && eqb e.r (default_r f)) (m.d && eqb e.d (default_d f)) w in
      let again : fields_in f e ≡ m = fields_again f m bs z.0 z.1 in
      record {
        within = long;
        some = omega arith;
        short = omega (arith, p_place_small m);
        sound = s;
        form = λ b.
            let map : map_of (fields_in f e) ≡ get_or bs 0 0 = ap map_of again ∙ map_form (get_or bs 0 0) (b 0) legal in
            entry_stands f m bs z.0 z.1 b long map ∙ sym (form_before_lem f e (drop (size_of m) bs));
        fits = λ b. record { serial = u32_small bs b 1; seal = seal_fits bs b 5 m.seal };
      }

  here : 1 ≤ length bs → (n : ℕ) → 2 ≤ n → n ≤ 8 → PlaceIn len (code n (at ∷ []))
  here h n other row = at_place len n at other row (omega arith)

  fields_say : legal_map (get_or bs 0 0) ≡ true → 1 ≤ length bs → Says (TakenEntry f bs) (PlaceIn len) (fields_entry f at m bs)
  unfolding fields_entry
  fields_say legal h =
      let P = TakenEntry f bs in
      let R = PlaceIn len in
      by_row P R (ltb (length bs) (size_of m)) _ _ (λ t. at_end len _ all)
      (λ l. by_row P R (default_written f m e) _ _ (λ t. here h 5 (omega arith) (omega arith))
      (λ w. by_step (λ _. Sound f e) R P (entry_fault f at e) _
      (fault_says f at e R (λ _. at_sixteen len at (omega arith)) (here h 6 (omega arith) (omega arith))
      (here h 7 (omega arith) (omega arith)))
      (λ _ s. taken legal (ltb-false _ _ l) w s)))

  -- what reading one entry says
  pub entry_says : Says (TakenEntry f bs) (PlaceIn len) (entry_of f at bs)
  unfolding entry_of
  entry_says =
      let P = TakenEntry f bs in
      let R = PlaceIn len in
      let map = get_or bs 0 0 in
      by_row P R (eqb (length bs) 0) _ _ (λ t. at_end len _ all)
      (λ n.
      let h : 1 ≤ length bs = omega (arith, eqb-false (length bs) 0 n) in
      by_step (λ n. Says P R (fields_entry f at n bs)) R P (map_fields at map) _
      (by_row (λ n. Says P R (fields_entry f at n bs)) R (not (legal_map map)) _ _
      (λ t. here h 4 (omega arith) (omega arith))
      (λ t. fields_say (not-false _ t) h))
      (λ n s. s))
