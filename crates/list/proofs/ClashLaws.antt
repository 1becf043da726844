-- Row 14 of the value check, in facts.
-- Assumes nothing.
use mathlib.Core.Path.{◌≡◌, refl, ap, subst}
use mathlib.Core.List.{List, [], ◌∷◌}
use Prim.Native.Nat.{ℕ}
use native.Mathlib.Omega.{arith}
use borrow.Author.Tests.{lt-ltb}
use lib.ListN.{length, get_or}
use Rattle.base.specs.Outcomes.{Code, code, answered, refused}
use Rattle.list.specs.DayLists.{entries_of}
use Rattle.list.specs.Clashes.{first_clash, FirstClash}
use Rattle.list.specs.Checks.{values_fault, check_of, WellFormed}
use Rattle.list.specs.Laws.{ClashLaw}
use Rattle.list.specs.declared.types.Entry.{Entry}
use Rattle.list.specs.declared.types.DayList.{DayList}
use Rattle.base.proofs.Inversion.{Says}
use Rattle.list.proofs.ClashFacts.{first_told}
use Rattle.list.proofs.Sound.{list_apart, check_says, values_apart}

module _ (l : DayList) where
  abbrev es : List Entry
  es = entries_of l

  -- what holds of a refusal, if it is 14
  abbrev Told : Code → Type 0
  Told x = (k : ℕ) → x ≡ code 14 (k ∷ []) → (values_fault l ≡ answered tt) × FirstClash es k

  clashing : (k : ℕ) → check_of l ≡ refused (code 14 (k ∷ [])) → (values_fault l ≡ answered tt) × FirstClash es k
  clashing k e =
      let told : Says (λ _. WellFormed l) Told (check_of l) =
      check_says l Told (λ n x h. other n x (omega arith)) (λ n x h. other n x (omega arith)) fourteen in
      (rw e at told) k refl
    where
      other : (n x : ℕ) → (n ≡ 14 → ⊥) → Told (code n (x ∷ []))
      other n x h j q = let z : n ≡ 14 = ap (λ (y : Code). y.number) q in absurd (h z)

      fourteen : values_fault l ≡ answered tt → FirstClash es (first_clash es) → Told (code 14 (first_clash es ∷ []))
      fourteen values f j q =
          let same : first_clash es ≡ j = ap (λ (y : Code). get_or y.carries 0 0) q in
          (values, subst (FirstClash es) same f)

  pub clash_law : ClashLaw l
  unfolding check_of
  clash_law =
      record {
        before = λ k e. rw e refl;
        accepted = list_apart l;
        clashing = clashing;
        refuses = λ k values f.
            let q : first_clash es ≡ k = first_told es k f in
            rw (values, q, lt-ltb k (length es) f.clashes.in_list) refl;
        passes = values_apart l;
      }
