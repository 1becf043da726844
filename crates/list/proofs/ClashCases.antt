-- Looking for an entry that clashes with an earlier one, case by case.
-- Assumes nothing.
use mathlib.Core.Path.{◌≡◌, refl, sym}
use mathlib.Core.Bool.{Bool, true, false}
use mathlib.Core.List.{[], ◌∷◌}
use Prim.Native.Nat.{ℕ, ◌<◌, ◌≤◌, min}
use native.Mathlib.Omega.{arith}
use borrow.Author.Tests.{lt-ltb, le-ltb}
use lib.ListN.{length, get_or, length-take}
use lib.Seq.{get_or-take}
use Rattle.base.specs.Outcomes.{Code, code, refused, answered}
use Rattle.base.proofs.Searches.{Passed, passed_found, passed_all}
use Rattle.list.specs.DayLists.{blank, entries_of}
use Rattle.list.specs.Clashes.{clash, clashes_earlier, first_clash}
use Rattle.list.specs.Checks.{values_fault, check_of}
use Rattle.list.specs.declared.types.Entry.{Entry}
use Rattle.list.specs.declared.types.DayList.{DayList}
use Rattle.list.proofs.Columns.{held_count}

module _ (l : DayList) where
  -- an entry that counts, as code reads it
  in_array : (i : ℕ) → i < length (entries_of l) → get_or (entries_of l) i blank ≡ get_or l.entries i blank
  in_array i h = get_or-take l.n l.entries i blank (omega (arith, h, length-take l.n l.entries))

  -- a place of the list is one of the array
  pub in_places : (place : ℕ) → length l.entries ≡ 64 → place < length (entries_of l) → place < 64
  in_places place long h = omega (arith, long, h, length-take l.n l.entries)

  -- the entries before a place
  module _ (place : ℕ) where
    abbrev pub earlier_test : ℕ → Bool
    earlier_test i = clash (get_or (entries_of l) i blank) (get_or (entries_of l) place blank)

    -- what code tests
    pub test_told : place < length (entries_of l) → (i : ℕ) → i < place → (e : Entry) → e ≡ get_or l.entries place blank → (t : Bool)
        → t ≡ clash (get_or l.entries i blank) e
        → earlier_test i ≡ t
    test_told in_list i h e is t says = rw (in_array i (omega (arith, h, in_list)), in_array place in_list, ← is) (sym says)

    pub earlier_found : (i : ℕ) → Passed place earlier_test i → i < place → earlier_test i ≡ true
        → true ≡ clashes_earlier (entries_of l) place
    earlier_found i so h e = rw (passed_found place earlier_test i so e) (sym (lt-ltb i place h))

    pub earlier_none : (i : ℕ) → Passed place earlier_test i → place ≤ i → false ≡ clashes_earlier (entries_of l) place
    earlier_none i so h = rw (passed_all place earlier_test i so h) (sym (le-ltb place place (omega arith)))

  -- the entries, place by place
  module _ (long : length l.entries ≡ 64) {count : ℕ} (held : count ≡ min l.n 64) (place : ℕ) where
    all : length (entries_of l) ≡ count
    all = held_count l long count held

    pub clash_asked : place < count → place < length (entries_of l)
    clash_asked h = rw all h

    module _ (so : Passed count (clashes_earlier (entries_of l)) place) where
      pub clash_found : true ≡ clashes_earlier (entries_of l) place → place ≡ first_clash (entries_of l)
      unfolding first_clash
      clash_found e = rw all (sym (passed_found count (clashes_earlier (entries_of l)) place so (sym e)))

      pub clash_none : count ≤ place → count ≡ first_clash (entries_of l)
      unfolding first_clash
      clash_none h = rw all (sym (passed_all count (clashes_earlier (entries_of l)) place so h))

    -- row 14, after the values
    module _ (passes : answered tt ≡ values_fault l) (is : place ≡ first_clash (entries_of l)) where
      pub check_clash : place < count → refused (code 14 (place ∷ [])) ≡ check_of l
      unfolding check_of
      check_clash h = rw (← passes, ← is, all, lt-ltb place count h) refl

      pub check_apart : count ≤ place → answered tt ≡ check_of l
      unfolding check_of
      check_apart h = rw (← passes, ← is, all, le-ltb place count h) refl

  -- the values decide
  pub check_values : {k : Code} → refused k ≡ values_fault l → refused k ≡ check_of l
  unfolding check_of
  check_values e = rw (← e) refl
