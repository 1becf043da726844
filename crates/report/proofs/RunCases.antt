-- Runs of a plan, as code finds them.
-- Assumes nothing.
use mathlib.Core.Path.{◌≡◌, sym, ◌∙◌}
use mathlib.Core.Bool.{not}
use mathlib.Core.List.{List}
use Prim.Native.Nat.{ℕ, ◌+◌, ◌-◌, ◌<◌, ◌≤◌}
use native.Mathlib.Omega.{arith}
use borrow.Author.Tests.{eq-eqb, ne_eqb, eqb-false, not-true}
use lib.Dec.{eqb}
use lib.ListN.{length, get_or}
use Rattle.windows.specs.Plans.{places_in}
use Rattle.base.proofs.Sums.{le_or_lt}
use Rattle.windows.proofs.PlanFacts.{place_read}
use Rattle.base.proofs.Searches.{first_below_lem, one_first}
use Rattle.report.specs.Runs.{begins_run, run_end}

module _ (plan : List ℕ) (t : ℕ) (below : t < length plan) (other : get_or plan t 0 ≡ 255 → ⊥) (before : ℕ) where
  here : get_or plan t 0 ≡ places_in plan t
  here = place_read plan t below

  -- nobody has a minute before minute 0
  pub begins_first : t ≡ 0 → before ≡ 255 → not (eqb before (get_or plan t 0)) ≡ begins_run (places_in plan) t
  begins_first z e = simp (e, ne_eqb _ _ (λ q. other (sym q)), ne_eqb _ _ (λ q. other (here ∙ q)), eq-eqb _ _ z)

  pub begins_later : (t ≡ 0 → ⊥) → before ≡ get_or plan (t - 1) 0
      → not (eqb before (get_or plan t 0)) ≡ begins_run (places_in plan) t
  begins_later z e =
      simp (ne_eqb _ _ (λ q. other (here ∙ q)), ne_eqb _ _ z, e, here, place_read plan (t - 1) (omega (arith, below)))

-- the entry of minute t has all minutes from t to e
pub record Extends (plan : List ℕ) (t e : ℕ) : Type 0 where
  pub begun : t ≤ e
  pub within : e ≤ length plan
  pub same : (i : ℕ) → t ≤ i → i < e → places_in plan i ≡ places_in plan t

module _ (plan : List ℕ) (t : ℕ) where
  pub extends_none : t < length plan → Extends plan t t
  extends_none below = record { begun = omega arith; within = omega arith; same = λ i a b. absurd (omega arith) }

  module _ (e : ℕ) (so : Extends plan t e) where
    -- the run ends where its entry does not go on, or at the day's end
    end_if : (e < length plan → places_in plan e ≡ places_in plan t → ⊥) → e ≡ run_end (length plan) (places_in plan) t
    unfolding run_end
    end_if stops =
        let j = e - t in
        let back : t + j ≡ e = omega (arith, so.begun) in
        let found : j ≡ _ =
        one_first (length plan - t) (λ i. not (eqb (places_in plan (t + i)) (places_in plan t))) j _
        (record {
          within = omega (arith, so.within);
          passes = λ l. rw back (simp (ne_eqb _ _ (stops (omega (arith, so.begun)))));
          none_before = λ i l q. eqb-false _ _ (not-true _ q) (so.same (t + i) (omega arith) (omega arith));
        })
        (first_below_lem (length plan - t) _) in
        omega (arith, back, found)

    pub ends_day : length plan ≤ e → length plan ≡ run_end (length plan) (places_in plan) t
    ends_day end = let z : length plan ≡ e = omega (arith, so.within) in z ∙ end_if (λ l. absurd (omega arith))

    module _ (below : e < length plan) (first : t < length plan) where
      pub ends_here : (get_or plan e 0 ≡ get_or plan t 0 → ⊥) → e ≡ run_end (length plan) (places_in plan) t
      ends_here other = end_if (λ _ q. other (place_read plan e below ∙ q ∙ sym (place_read plan t first)))

      pub extends_next : get_or plan e 0 ≡ get_or plan t 0 → Extends plan t (e + 1)
      extends_next q =
          record {
            begun = omega (arith, so.begun);
            within = omega arith;
            same = λ i a b. le_or_lt e i
                (λ l. let z : i ≡ e = omega arith in rw z (sym (place_read plan e below) ∙ q ∙ place_read plan t first))
                (λ l. so.same i a l);
          }
