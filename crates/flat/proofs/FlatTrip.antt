-- A list value's numbers say it again.
-- Assumes nothing.
use mathlib.Core.Path.{◌≡◌, refl, sym, ap, ◌∙◌}
use mathlib.Core.Bool.{not}
use mathlib.Core.List.{List, [], ◌∷◌, ◌++◌}
use Prim.Native.Nat.{ℕ, suc, ◌+◌, ◌*◌, min}
use native.Mathlib.Nat.{add-zero}
use native.Mathlib.Omega.{arith}
use borrow.Author.Tests.{eq-eqb}
use lib.Dec.{eqb}
use lib.ListN.{length, get_or, drop}
use lib.Seq.{drop-drop, get_or-drop}
use Rattle.base.specs.Outcomes.{answered}
use Rattle.list.specs.DayLists.{blank}
use Rattle.list.specs.Machine.{MinutesFit, NumbersFit}
use Rattle.std.specs.Prelude.{None, Option, Some}
use Rattle.list.specs.declared.types.Kind.{Kind}
use Rattle.list.specs.declared.types.Kind.TheVariants.{Pause, Whole}
use Rattle.list.specs.declared.types.Entry.{Entry}
use Rattle.list.specs.declared.types.DayList.{DayList}
use Rattle.format.specs.Maps.{kind_of}
use Rattle.format.specs.EntryFields.{seal_of}
use Rattle.flat.specs.Flat.{present, number_of, whole_of, flat_entry, flat_entries, flat_of, entry_in, entries_in, value_of}
use Rattle.flat.specs.Flat.{flat_numbers, list_in}
use Rattle.flat.proofs.FlatCases.{flat_length}

seal_back : (s : Option ℕ) → seal_of (not (eqb (present s) 0)) (number_of s) ≡ s
seal_back None = refl
seal_back (Some x) = refl

kind_back : (k : Kind) → kind_of (not (eqb (whole_of k) 0)) ≡ k
kind_back Pause = refl
kind_back Whole = refl

-- an entry, where its numbers stand
module _ (xs : List ℕ) (at : ℕ) (e : Entry) (more : List ℕ) (here : drop at xs ≡ flat_entry e ++ more) (fits : MinutesFit e) where
  number : (j : ℕ) → get_or xs (at + j) 0 ≡ get_or (flat_entry e ++ more) j 0
  number j = sym (get_or-drop at xs j 0) ∙ ap (λ (l : List ℕ). get_or l j 0) here

  entry_back : entry_in xs at ≡ e
  entry_back =
      λ j. record {
        serial = (rw (add-zero at) at (number 0)) j;
        seal = seal j;
        r = r j;
        d = d j;
        p = p j;
        kind = kind j;
      }
    where
      seal : seal_of (not (eqb (get_or xs (at + 1) 0) 0)) (get_or xs (at + 2) 0) ≡ e.seal
      seal = rw (number 1, number 2) (seal_back e.seal)

      r : min (get_or xs (at + 3) 0) 65535 ≡ e.r
      r = omega (arith, number 3, fits.r)

      d : min (get_or xs (at + 4) 0) 65535 ≡ e.d
      d = omega (arith, number 4, fits.d)

      p : min (get_or xs (at + 5) 0) 65535 ≡ e.p
      p = omega (arith, number 5, fits.p)

      kind : kind_of (not (eqb (get_or xs (at + 6) 0) 0)) ≡ e.kind
      kind = rw (number 6) (kind_back e.kind)

-- entries, the first at place i
entries_back : (xs : List ℕ) (i : ℕ) (es : List Entry) → drop (3 + 7 * i) xs ≡ flat_entries es
    → ((j : ℕ) → MinutesFit (get_or es j blank)) → entries_in (length es) i xs ≡ es
unfolding entries_in flat_entries
entries_back xs i [] here fits = refl
entries_back xs i (e ∷ es) here fits =
    λ j. entry_back xs (3 + 7 * i) e (flat_entries es) here (fits 0) j ∷ entries_back xs (i + 1) es next (λ k. fits (suc k)) j
  where
    next : drop (3 + 7 * (i + 1)) xs ≡ flat_entries es
    next =
        let z : 3 + 7 * (i + 1) ≡ 3 + 7 * i + 7 = omega arith in
        ap (λ (k : ℕ). drop k xs) z ∙ sym (drop-drop 7 (3 + 7 * i) xs) ∙ ap (drop 7) here

module _ (l : DayList) (fits : NumbersFit l) where
  pub value_back : value_of (flat_of l) ≡ l
  value_back = λ j. record { frame = record { h = h j; opening = opening j }; n = n j; entries = entries j }
    where
      h : min l.frame.h 65535 ≡ l.frame.h
      h = omega (arith, fits.h)

      opening : min l.frame.opening 65535 ≡ l.frame.opening
      opening = omega (arith, fits.opening)

      n : min l.n 255 ≡ l.n
      n = omega (arith, fits.n)

      entries : entries_in 64 0 (flat_of l) ≡ l.entries
      entries = ap (λ (k : ℕ). entries_in k 0 (flat_of l)) (sym fits.long) ∙ entries_back (flat_of l) 0 l.entries refl fits.minutes

  -- so the row stored says the list
  pub stored_back : list_in (flat_of l) ≡ answered l
  stored_back =
      let long : length (flat_of l) ≡ flat_numbers = omega (arith, flat_length l.entries, fits.long) in
      rw (eq-eqb _ _ long) (ap answered value_back)
