-- Rows and their length.
-- Assumes nothing.
use mathlib.Core.Path.{◌≡◌, refl, ap, ◌∙◌}
use mathlib.Core.Bool.{not}
use mathlib.Core.List.{List}
use Prim.Native.Nat.{ℕ}
use borrow.Author.Tests.{eqb-true, eq-eqb, ne_eqb, not-false}
use lib.ListN.{length}
use lib.Dec.{eqb}
use Rattle.base.specs.Outcomes.{answered}
use Rattle.base.proofs.Inversion.{Says, Anything, by_row, by_step}
use Rattle.list.specs.declared.types.DayList.{DayList}
use Rattle.list.specs.Machine.{NumbersFit}
use Rattle.flat.specs.Flat.{flat_numbers, flat_of, value_of, length_fault, flat_fault, list_in, StoresFlat}
use Rattle.flat.proofs.FlatTrip.{stored_back}

-- the one length that row 100 lets pass
pub length_says : (asked n : ℕ) → Says (λ _. n ≡ asked) Anything (length_fault asked n)
length_says asked n =
    by_row (λ _. n ≡ asked) Anything (not (eqb n asked)) _ (answered tt) (λ t. tt) (λ t. eqb-true _ _ (not-false _ t))

pub length_right : (asked n : ℕ) → length_fault asked n ≡ answered tt → n ≡ asked
length_right asked n e = rw e at (length_says asked n)

-- a row of that length says the list value of its numbers
module _ (xs : List ℕ) where
  abbrev Value : DayList → Type 0
  Value l = l ≡ value_of xs

  pub list_says : Says Value Anything (list_in xs)
  list_says =
      by_step (λ _. length xs ≡ flat_numbers) Anything Value (flat_fault (length xs)) (λ _. answered (value_of xs))
      (length_says flat_numbers (length xs)) (λ _ _. refl)

-- a list value was stored, or nothing
module _ (l : DayList) (old : List ℕ) where
  pub flat_put : NumbersFit l → (new : List ℕ) → length old ≡ flat_numbers → new ≡ flat_of l → StoresFlat l old new
  flat_put fits new h q = record { numbers = rw (eq-eqb _ _ h, q); back = λ _. ap list_in q ∙ stored_back l fits }

  pub flat_kept : (length old ≡ flat_numbers → ⊥) → StoresFlat l old old
  flat_kept h = record { numbers = rw (ne_eqb _ _ h); back = λ long. absurd (h long) }
