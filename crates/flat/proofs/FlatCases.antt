-- The flat form, entry by entry.
-- Assumes nothing.
use mathlib.Core.Path.{◌≡◌, refl, sym, ap, ◌∙◌}
use mathlib.Core.List.{List, [], ◌∷◌, ◌++◌, append_assoc, append-nil}
use Prim.Native.Nat.{ℕ, suc, ◌+◌, ◌*◌, ◌-◌, ◌≤◌, ◌<◌, min}
use native.Mathlib.Numerals.{add-one}
use native.Mathlib.Omega.{arith}
use lib.ListN.{length, get_or, take, drop, set, length-set, drop_of_length-le}
use lib.Seq.{take-suc-set, take_all, drop-cons, sets, sets-eq, length-sets}
use mathlib.Core.Bool.{not}
use lib.Dec.{eqb}
use Rattle.list.specs.declared.types.Kind.{Kind}
use mir.Val.{bool_byte}
use Rattle.std.specs.Prelude.{Option, None, Some, is_some}
use Rattle.format.specs.EntryFields.{seal_of}
use Rattle.format.specs.Maps.{kind_of}
use Rattle.list.specs.declared.types.Entry.{Entry}
use Rattle.list.specs.declared.types.DayList.{DayList}
use Rattle.base.proofs.Stores.{sets_append}
use Rattle.flat.specs.Flat.{present, flat_entry, flat_entries, flat_of, entry_in, entries_in}

-- `entry_in`, field by field
pub entry_in_is : (xs : List ℕ) (at : ℕ) {seal : Option ℕ} {r d p : ℕ} {kind : Kind}
    → seal ≡ seal_of (not (eqb (get_or xs (at + 1) 0) 0)) (get_or xs (at + 2) 0)
    → r ≡ min (get_or xs (at + 3) 0) 65535 → d ≡ min (get_or xs (at + 4) 0) 65535 → p ≡ min (get_or xs (at + 5) 0) 65535
    → kind ≡ kind_of (not (eqb (get_or xs (at + 6) 0) 0))
    → record { serial = get_or xs at 0; seal = seal; r = r; d = d; p = p; kind = kind } ≡ entry_in xs at
entry_in_is xs at s r d p k = rw (s, r, d, p, k)

-- whether a seal is a number, as a number
pub present_is : (s : Option ℕ) → bool_byte (is_some s) ≡ present s
present_is None = refl
present_is (Some x) = refl

-- i entries were read from the numbers
pub record ReadInSoFar (xs : List ℕ) (entries : List Entry) (i : ℕ) : Type 0 where
  pub passed : i ≤ 64
  pub long : length entries ≡ 64
  pub rest : entries_in 64 0 xs ≡ take i entries ++ entries_in (64 - i) i xs

pub read_in_start : (xs : List ℕ) (entries : List Entry) → length entries ≡ 64 → ReadInSoFar xs entries 0
read_in_start xs entries h = record { passed = omega arith; long = h; rest = refl }

module _ {xs : List ℕ} {entries : List Entry} {i : ℕ} (s : ReadInSoFar xs entries i) where
  pub read_in_next : (e : Entry) → i < 64 → e ≡ entry_in xs (3 + 7 * i) → ReadInSoFar xs (set entries i e) (i + 1)
  unfolding entries_in
  read_in_next e h q =
      let z : 64 - i ≡ suc (64 - (i + 1)) = omega arith in
      record {
        passed = omega arith;
        long = length-set entries i e ∙ s.long;
        rest = s.rest ∙ rw z (ap (λ (x : Entry). take i entries ++ (x ∷ more)) (sym q) ∙ one_more);
      }
    where
      more : List Entry
      more = entries_in (64 - (i + 1)) (i + 1) xs

      taken : take i entries ++ (e ∷ []) ≡ take (i + 1) (set entries i e)
      taken = rw (add-one i) (sym (take-suc-set entries i e (omega (arith, s.long))))

      one_more : take i entries ++ (e ∷ more) ≡ take (i + 1) (set entries i e) ++ more
      one_more = sym (append_assoc (take i entries) (e ∷ []) more) ∙ ap (λ (l : List Entry). l ++ more) taken

  pub read_in_done : 64 ≤ i → entries_in 64 0 xs ≡ entries
  unfolding entries_in
  read_in_done h =
      let z : 64 - i ≡ 0 = omega arith in
      s.rest ∙ rw z (append-nil (take i entries) ∙ take_all i entries (omega (arith, s.long)))

-- i entries were stored as numbers
pub record NumbersPut (l : DayList) (fields : List ℕ) (i : ℕ) : Type 0 where
  pub all : length l.entries ≡ 64
  pub long : length fields ≡ 451
  pub rest : sets fields (3 + 7 * i) (flat_entries (drop i l.entries)) ≡ flat_of l

pub flat_length : (es : List Entry) → length (flat_entries es) ≡ 7 * length es
unfolding flat_entries
flat_length [] = refl
flat_length (e ∷ es) = omega (arith, flat_length es)

pub numbers_start : (l : DayList) (old : List ℕ) → length old ≡ 451 → length l.entries ≡ 64
    → NumbersPut l (set (set (set old 0 l.frame.h) 1 l.n) 2 l.frame.opening) 0
numbers_start l old h k =
    let one = set old 0 l.frame.h in
    let two = set one 1 l.n in
    let flat : length (flat_of l) ≡ 451 = omega (arith, flat_length l.entries) in
    let short : length old ≤ 0 + length (flat_of l) = omega (arith, h, flat) in
    let none : drop (0 + length (flat_of l)) old ≡ [] = drop_of_length-le old short in
    record {
      all = k;
      long = length-set two 2 l.frame.opening ∙ length-set one 1 l.n ∙ length-set old 0 l.frame.h ∙ h;
      rest = sets-eq (flat_of l) old 0 (omega (arith, h, flat)) ∙ rw none (append-nil (flat_of l));
    }

module _ {l : DayList} {fields : List ℕ} {i : ℕ} (s : NumbersPut l fields i) where
  pub numbers_next : (new : List ℕ) (e₀ : Entry) → i < 64 → new ≡ sets fields (3 + 7 * i) (flat_entry (get_or l.entries i e₀))
      → NumbersPut l new (i + 1)
  unfolding flat_entries
  numbers_next new e₀ h q =
      let e = get_or l.entries i e₀ in
      let more = drop (i + 1) l.entries in
      let next : drop i l.entries ≡ e ∷ more = rw (add-one i) (drop-cons l.entries i e₀ (omega (arith, s.all))) in
      let z : 3 + 7 * i + 7 ≡ 3 + 7 * (i + 1) = omega arith in
      record {
        all = s.all;
        long = rw q (length-sets fields (3 + 7 * i) (flat_entry e) ∙ s.long);
        rest = rw (q, ← z) (sym (sets_append fields (3 + 7 * i) (flat_entry e) (flat_entries more)) ∙ rw next at s.rest);
      }

  pub numbers_done : 64 ≤ i → fields ≡ flat_of l
  unfolding flat_entries
  numbers_done h =
      let short : length l.entries ≤ i = omega (arith, s.all) in
      rw (drop_of_length-le l.entries short) at s.rest
