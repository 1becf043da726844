-- Entries that clash: what the search of row 14 tells, as facts.
-- Assumes nothing.
use mathlib.Core.Path.{◌≡◌, sym, ◌∙◌}
use mathlib.Core.Bool.{Bool, true}
use mathlib.Core.List.{List}
use Prim.Native.Nat.{ℕ, ◌<◌, ◌≤◌, min, max}
use native.Mathlib.Omega.{arith}
use borrow.Author.Tests.{ltb-true, lt-ltb, eqb-true, eq-eqb}
use lib.Dec.{eqb}
use lib.ListN.{length, get_or}
use Rattle.base.specs.Counting.{first_below}
use Rattle.base.proofs.Sums.{le_or_lt}
use Rattle.base.proofs.Inversion.{both}
use Rattle.base.proofs.Searches.{First, first_below_lem, one_first}
use Rattle.list.specs.DayLists.{blank}
use Rattle.list.specs.Clashes.{clash, clashes_earlier, first_clash, InWindow, Clash, Apart, FirstClash}
use Rattle.list.specs.declared.types.Entry.{Entry}

module _ (es : List Entry) where
  abbrev at : ℕ → Entry
  at i = get_or es i blank

  module _ (i k : ℕ) where
    clash_facts : i < k → k < length es → clash (at i) (at k) ≡ true → Clash es i k
    clash_facts before place e =
        let z = both (eqb (at i).serial (at k).serial) _ e in
        let shared = ltb-true (max (at i).r (at k).r) (min (at i).d (at k).d) z.1 in
        record {
          earlier = before;
          in_list = place;
          serial = eqb-true _ _ z.0;
          minute = max (at i).r (at k).r;
          in_earlier = (omega arith, omega (arith, shared));
          in_later = (omega arith, omega (arith, shared));
        }

    clash_told : Clash es i k → clash (at i) (at k) ≡ true
    clash_told c =
        let shared : max (at i).r (at k).r < min (at i).d (at k).d =
        omega (arith, c.in_earlier.0, c.in_earlier.1, c.in_later.0, c.in_later.1) in
        rw (eq-eqb _ _ c.serial) (lt-ltb _ _ shared)

  module _ (k : ℕ) where
    abbrev test : ℕ → Bool
    test i = clash (at i) (at k)

    -- the entry at place k clashes with an earlier one
    earlier_facts : k < length es → clashes_earlier es k ≡ true → (i : ℕ) × Clash es i k
    earlier_facts place e =
        let i = first_below k test in
        let before : i < k = ltb-true _ _ e in
        (i, clash_facts i k before place ((first_below_lem k test).passes before))

    earlier_told : (i : ℕ) → Clash es i k → clashes_earlier es k ≡ true
    earlier_told i c =
        let found = first_below_lem k test in
        let below : first_below k test < k =
        le_or_lt k (first_below k test)
        (λ h. absurd (found.none_before i (omega (arith, h, c.earlier)) (clash_told i k c)))
        (λ h. h) in
        lt-ltb _ _ below

  -- the search of row 14 tells that no two entries clash, or the first that does with an earlier one
  pub clash_search : First (length es) (clashes_earlier es) (first_clash es)
  unfolding first_clash
  clash_search = first_below_lem (length es) (clashes_earlier es)

  none_before : (k : ℕ) → k ≤ first_clash es → (i j : ℕ) → j < k → Clash es i j → ⊥
  none_before k h i j before c = clash_search.none_before j (omega arith) (earlier_told j i c)

  pub apart : length es ≤ first_clash es → Apart es
  apart h i k c = none_before (length es) h i k c.in_list c

  pub first_clash_lem : first_clash es < length es → FirstClash es (first_clash es)
  first_clash_lem h =
      let z = earlier_facts (first_clash es) h (clash_search.passes h) in
      record { partner = z.0; clashes = z.1; first = none_before (first_clash es) (omega arith) }

  -- and it tells every such one
  pub apart_told : Apart es → length es ≤ first_clash es
  apart_told none =
      le_or_lt (length es) (first_clash es) (λ h. h)
      (λ h. let z = first_clash_lem h in absurd (none z.partner (first_clash es) z.clashes))

  pub first_told : (k : ℕ) → FirstClash es k → first_clash es ≡ k
  first_told k f =
      one_first (length es) (clashes_earlier es) (first_clash es) k clash_search
      (record {
        within = omega (arith, f.clashes.in_list);
        passes = λ _. earlier_told k f.partner f.clashes;
        none_before = λ j before t. let z = earlier_facts j (omega (arith, f.clashes.in_list)) t in f.first z.0 j before z.1;
      })

-- Entries that have the serials of others, and a minute of whose windows tells one of theirs: where two of them clash, so do the others.
pub clash_carried : (es fs : List Entry) → length es ≡ length fs
    → ((i : ℕ) → i < length fs → (get_or es i blank).serial ≡ (get_or fs i blank).serial)
    → (minute : ℕ → ℕ)
    → ((i : ℕ) → i < length fs → (t : ℕ) → InWindow (get_or es i blank) t → InWindow (get_or fs i blank) (minute t))
    → (i k : ℕ) → Clash es i k → Clash fs i k
clash_carried es fs count serial minute within i k c =
    let later : k < length fs = omega (arith, c.in_list, count) in
    let before : i < length fs = omega (arith, later, c.earlier) in
    record {
      earlier = c.earlier;
      in_list = later;
      serial = sym (serial i before) ∙ c.serial ∙ serial k later;
      minute = minute c.minute;
      in_earlier = within i before c.minute c.in_earlier;
      in_later = within k later c.minute c.in_later;
    }
