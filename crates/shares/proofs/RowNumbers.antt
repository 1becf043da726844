-- The rows that the front of bytes meets do not have number 8, and where there are bytes enough for every entry not number 1.
-- Assumes nothing.
use mathlib.Core.Path.{◌≡◌}
use mathlib.Core.Bool.{not}
use mathlib.Core.List.{List}
use Prim.Native.Nat.{ℕ, zero, suc, ◌+◌, ◌*◌, ◌≤◌}
use native.Mathlib.Omega.{arith}
use borrow.Author.Tests.{ltb-true, eqb-true}
use lib.Dec.{eqb, ltb}
use lib.ListN.{length, get_or, drop, length-drop}
use Rattle.base.specs.Outcomes.{Code}
use Rattle.base.proofs.Inversion.{Says, by_row, by_step, says_refusal}
use Rattle.list.specs.Entries.{entry_fault}
use Rattle.list.specs.declared.types.Entry.{Entry}
use Rattle.list.specs.declared.types.Frame.{Frame}
use Rattle.list.specs.Laws.{Sound}
use Rattle.list.proofs.Sound.{fault_says}
use Rattle.format.specs.Maps.{legal_map, map_fields, size_of}
use Rattle.format.specs.EntryFields.{entry_at, default_written, fields_entry, entry_of}
use Rattle.format.specs.Reading.{entries_from}
use Rattle.format.specs.declared.map.Fields.{Fields}
use Rattle.format.proofs.Places.{p_place_small}

-- a refusal that is not by 8, and if there are bytes enough not by 1
abbrev pub Neither : Type 0 → Code → Type 0
Neither enough k = (k.number ≡ 8 → ⊥) × (enough → k.number ≡ 1 → ⊥)

-- where answers do not count
abbrev pub Any : {A : Type 0} → A → Type 0
Any a = Unit {0}

-- enough for one thing, where more is asked for
fewer : {enough less : Type 0} → (enough → less) → (k : Code) → Neither less k → Neither enough k
fewer f k n = (n.0, λ e. n.1 (f e))

module _ (f : Frame) where
  -- an entry has 15 bytes at most
  abbrev Short : Entry × ℕ → Type 0
  Short x = x.1 ≤ 15

  fields_row : (at : ℕ) (m : Fields) (bs : List ℕ) → Says Short (Neither (15 ≤ length bs)) (fields_entry f at m bs)
  unfolding fields_entry
  fields_row at m bs =
      let e = entry_at f m bs in
      let N = Neither (15 ≤ length bs) in
      by_row Short N (ltb (length bs) (size_of m)) _ _
      (λ t. (omega arith, λ enough. absurd (omega (arith, ltb-true (length bs) (size_of m) t, enough, p_place_small m))))
      (λ _. by_row Short N (default_written f m e) _ _ (λ _. (omega arith, λ _. omega arith))
      (λ _. by_step (λ _. Sound f e) N Short (entry_fault f at e) _
      (fault_says f at e N (λ _. (omega arith, λ _. omega arith)) (omega arith, λ _. omega arith) (omega arith, λ _. omega arith))
      (λ _ _. omega (arith, p_place_small m))))

  entry_row : (at : ℕ) (bs : List ℕ) → Says Short (Neither (15 ≤ length bs)) (entry_of f at bs)
  unfolding entry_of
  entry_row at bs =
      let N = Neither (15 ≤ length bs) in
      by_row Short N (eqb (length bs) 0) _ _ (λ t. (omega arith, λ enough. absurd (omega (arith, eqb-true (length bs) 0 t, enough))))
      (λ _. by_step Any N Short (map_fields at (get_or bs 0 0)) _
      (by_row Any N (not (legal_map (get_or bs 0 0))) _ _ (λ _. (omega arith, λ _. omega arith)) (λ _. tt))
      (λ m _. fields_row at m bs))

  pub entries_row : (k at : ℕ) (bs : List ℕ) → Says Any (Neither (15 * k ≤ length bs)) (entries_from f k at bs)
  unfolding entries_from
  entries_row zero at bs = tt
  entries_row (suc k) at bs =
      let N = Neither (15 * suc k ≤ length bs) in
      let o = entry_of f at bs in
      by_step Short N Any o _ (says_refusal Short (Neither (15 ≤ length bs)) N o (fewer (λ e. omega (arith, e))) (entry_row at bs))
      (λ x short.
      let more = drop x.1 bs in
      let rest = entries_from f k (at + x.1) more in
      by_step Any N Any rest _
      (says_refusal Any (Neither (15 * k ≤ length more)) N rest
      (fewer (λ e. omega (arith, e, short, length-drop x.1 bs))) (entries_row k (at + x.1) more))
      (λ _ _. tt))
