-- The value check, case by case: what code knows at the header, at each entry, after the last, and of entries that clash.
-- Assumes nothing.
use mathlib.Core.Path.{◌≡◌, refl}
use mathlib.Core.List.{[], ◌∷◌}
use Prim.Native.Nat.{ℕ, ◌+◌, ◌≤◌, ◌<◌}
use borrow.Author.Tests.{eq-eqb, ne_eqb, lt-ltb, le-ltb, le-leb}
use lib.ListN.{length, get_or, drop}
use Rattle.base.specs.Outcomes.{Code, Outcome, answered, and_then, code, refused}
use Rattle.list.specs.Entries.{entry_fault}
use Rattle.list.specs.DayLists.{entries_of}
use Rattle.list.specs.Checks.{header_fault, opening_fault, entries_fault, values_fault}
use Rattle.list.specs.declared.types.Entry.{Entry}
use Rattle.list.specs.declared.types.Frame.{Frame}
use Rattle.list.specs.declared.types.DayList.{DayList}
use Rattle.base.proofs.Walk.{walk_next, walk_done}

-- rows 2 and 3, each from the tests that led to it
module _ (place h n : ℕ) where
  pub no_day : h ≡ 0 → refused (code 2 (0 ∷ [])) ≡ header_fault place h n
  unfolding header_fault
  no_day z = simp (eq-eqb _ _ z)

  pub long_day : (h ≡ 0 → ⊥) → 1440 < h → refused (code 2 (0 ∷ [])) ≡ header_fault place h n
  unfolding header_fault
  long_day z l = simp (ne_eqb _ _ z, lt-ltb _ _ l)

  pub too_many : (h ≡ 0 → ⊥) → h ≤ 1440 → 64 < n → refused (code 3 (place ∷ [])) ≡ header_fault place h n
  unfolding header_fault
  too_many z l k = simp (ne_eqb _ _ z, le-ltb _ _ l, lt-ltb _ _ k)

-- row 15
pub opens_past_day : (place : ℕ) (f : Frame) → f.h ≤ f.opening → refused (code 15 (place ∷ [])) ≡ opening_fault place f
unfolding opening_fault
opens_past_day place f h = simp (le-leb _ _ h)

-- rows 16, 6 and 7 likewise
module _ (f : Frame) (place : ℕ) (e : Entry) where
  pub before_opening : e.r < f.opening → refused (code 16 (place ∷ [])) ≡ entry_fault f place e
  unfolding entry_fault
  before_opening o = simp (lt-ltb _ _ o)

  module _ (o : f.opening ≤ e.r) where
    pub no_minutes : e.p ≡ 0 → refused (code 6 (place ∷ [])) ≡ entry_fault f place e
    unfolding entry_fault
    no_minutes z = simp (le-ltb _ _ o, eq-eqb _ _ z)

    pub past_day : (e.p ≡ 0 → ⊥) → f.h < e.d → refused (code 7 (place ∷ [])) ≡ entry_fault f place e
    unfolding entry_fault
    past_day z h = simp (le-ltb _ _ o, ne_eqb _ _ z, lt-ltb _ _ h)

    pub too_short : (e.p ≡ 0 → ⊥) → e.d ≤ f.h → e.d < e.r + e.p → refused (code 7 (place ∷ [])) ≡ entry_fault f place e
    unfolding entry_fault
    too_short z h w = simp (le-ltb _ _ o, ne_eqb _ _ z, le-ltb _ _ h, lt-ltb _ _ w)

module _ (l : DayList) where
  -- rows 16, 6 and 7 of the entries from place i on
  abbrev pub fault_from : ℕ → Outcome (Unit {0})
  fault_from i = entries_fault l.frame i (drop i (entries_of l))

  -- the header is turned back, or the opening minute is, or the entries decide
  pub values_header : {k : Code} → refused k ≡ header_fault 0 l.frame.h l.n → refused k ≡ values_fault l
  unfolding values_fault
  values_header e = rw (← e) refl

  module _ (w : answered tt ≡ header_fault 0 l.frame.h l.n) where
    pub values_opening : {k : Code} → refused k ≡ opening_fault 0 l.frame → refused k ≡ values_fault l
    unfolding values_fault
    values_opening e = rw (← w, ← e) refl

    pub values_entries : answered tt ≡ opening_fault 0 l.frame → values_fault l ≡ fault_from 0
    unfolding values_fault
    values_entries e = rw (← w, ← e) refl

  module _ (enough : l.n ≤ length l.entries) (i : ℕ) (e₀ : Entry) {o : Outcome (Unit {0})}
      (w : o ≡ entry_fault l.frame i (get_or l.entries i e₀)) (h : i < l.n) where
    -- the entry at place i decides, or those after it
    pub values_turn : fault_from i ≡ and_then o (λ _. fault_from (i + 1))
    unfolding entries_fault
    values_turn = rw (walk_next l.entries l.n enough i e₀ h, w)

  pub values_done : (enough : l.n ≤ length l.entries) (i : ℕ) → l.n ≤ i → fault_from i ≡ answered tt
  unfolding entries_fault
  values_done enough i h = rw (walk_done l.entries l.n enough i h)
