-- What the search for a least end finds.
-- Assumes nothing.
use mathlib.Core.Path.{◌≡◌, refl, sym, ap, ◌∙◌}
use mathlib.Core.Logic.{◌↔◌}
use mathlib.Core.Bool.{Bool, true, false, true≢false}
use Prim.Native.Nat.{ℕ, ◌+◌, ◌-◌, ◌<◌, ◌≤◌}
use native.Mathlib.Omega.{arith}
use Rattle.windows.specs.Windows.{Windows, with_d, Formed}
use Rattle.windows.specs.Plans.{Plannable}
use Rattle.windows.specs.Intervals.{overload_of}
use Rattle.base.proofs.Sums.{le_or_lt, not_passed}
use Rattle.base.proofs.Searches.{First, first_below_lem}
use Rattle.narrow.specs.Searching.{Test}
use Rattle.base.specs.Outcomes.{accepts}
use Rattle.narrow.proofs.Planners.{Planner}
use Rattle.windows.proofs.Puts.{own_deadline, deadline_widen, deadline_formed}
use Rattle.edges.specs.Ends.{closed_end}
use Rattle.edges.proofs.EndLaws.{end_law}
use Rattle.narrow.proofs.OverloadPlanner.{overload_planner}
use Rattle.base.proofs.Inversion.{accepted_answered}
use Rattle.bounds.specs.Ends.{spare, failed_deadlines, least_end}

-- Another d of one entry.
module _ (w : Windows) (formed : Formed w) (k : ℕ) (place : k < w.n) {test : Test} (planner : Planner test) where
  -- the test of an end asks whether a plan exists
  pub deadline_exact : (e : ℕ) → w.r k + w.p k ≤ e → e ≤ w.d k → (accepts (test (with_d w k e)) ≡ true) ↔ Plannable (with_d w k e)
  deadline_exact e room due =
      let exact = planner.exact (with_d w k e) (deadline_formed w formed k place e room due) in
      (λ q. exact.1 (accepted_answered _ q), λ plan. ap accepts (exact.0 plan))

-- Least ends.

-- what they are by their definition
pub least_end_whole : (test : Test) (whole : ℕ → Bool) (w : Windows) (k : ℕ) → whole k ≡ true → least_end test whole w k ≡ w.r k + w.p k
unfolding least_end
least_end_whole test whole w k is = rw is

least_end_pause : (test : Test) (whole : ℕ → Bool) (w : Windows) (k : ℕ) → whole k ≡ false
    → least_end test whole w k ≡ w.r k + w.p k + failed_deadlines test w k
unfolding least_end
least_end_pause test whole w k is = rw is

-- of a pause entry, the first end that the test accepts, or d
pub record IsFirstDeadline (test : Test) (w : Windows) (k x : ℕ) : Type 0 where
  pub room : w.r k + w.p k ≤ x
  pub due : x ≤ w.d k
  pub none_before : (e : ℕ) → w.r k + w.p k ≤ e → e < x → accepts (test (with_d w k e)) ≡ false
  pub passes : x < w.d k → accepts (test (with_d w k x)) ≡ true

-- there is only one such end
one_deadline : (test : Test) (w : Windows) (k x y : ℕ) → IsFirstDeadline test w k x → IsFirstDeadline test w k y → x ≡ y
one_deadline test w k x y a b =
    le_or_lt x y
    (λ l. le_or_lt y x (λ m. omega arith) (λ m. absurd (before x y a b m)))
    (λ l. absurd (before y x b a l))
  where
    before : (x y : ℕ) → IsFirstDeadline test w k x → IsFirstDeadline test w k y → x < y → ⊥
    before x y a b less =
        let due = b.due in
        true≢false (sym (a.passes (omega arith)) ∙ b.none_before x a.room less)

module _ (test : Test) (whole : ℕ → Bool) (w : Windows) (formed : Formed w) (k : ℕ) (place : k < w.n) where
  -- what the search answers
  pub least_end_first : whole k ≡ false → IsFirstDeadline test w k (least_end test whole w k)
  unfolding failed_deadlines
  least_end_first is =
      rw (least_end_pause test whole w k is)
      (record {
        room = omega arith;
        due = omega (arith, first.within, formed.room k place);
        none_before = before;
        passes = λ l. first.passes (omega arith);
      })
    where
      first : First (spare w k) (λ j. accepts (test (with_d w k (w.r k + w.p k + j)))) (failed_deadlines test w k)
      first = first_below_lem (spare w k) _

      before : (e : ℕ) → w.r k + w.p k ≤ e → e < w.r k + w.p k + failed_deadlines test w k → accepts (test (with_d w k e)) ≡ false
      before e room less =
          let j = e - (w.r k + w.p k) in
          let same : w.r k + w.p k + j ≡ e = omega arith in
          not_passed _ (λ q. first.none_before j (omega arith) (rw same q))

  -- and whatever is such an end is that
  pub least_end_found : whole k ≡ false → (x : ℕ) → IsFirstDeadline test w k x → least_end test whole w k ≡ x
  least_end_found is x first = one_deadline test w k _ x (least_end_first is) first

  -- it lies in the window, with room for the entry's minutes
  pub least_end_range : (w.r k + w.p k ≤ least_end test whole w k) × (least_end test whole w k ≤ w.d k)
  least_end_range = go (whole k) refl
    where
      go : (t : Bool) → whole k ≡ t → (w.r k + w.p k ≤ least_end test whole w k) × (least_end test whole w k ≤ w.d k)
      go true is = rw (least_end_whole test whole w k is) (omega arith, formed.room k place)
      go false is = let z = least_end_first is in (z.room, z.due)

-- Where a plan exists, that is the closed form of edge-finding; where none does, d.
module _ (w : Windows) (formed : Formed w) (k : ℕ) (place : k < w.n) where
  pub closed_deadline : Plannable w → IsFirstDeadline overload_of w k (closed_end w k)
  closed_deadline planned =
      let law = end_law w formed planned k place in
      record {
        room = law.room;
        due = law.due;
        none_before =
            λ e room less.
            not_passed _
            (λ q. law.least e room less ((deadline_exact w formed k place overload_planner e room (omega (arith, less, law.due))).0 q));
        passes = λ _. (deadline_exact w formed k place overload_planner (closed_end w k) law.room law.due).1 law.plan;
      }

  pub given_deadline : (Plannable w → ⊥) → IsFirstDeadline overload_of w k (w.d k)
  given_deadline none =
      record {
        room = formed.room k place;
        due = omega arith;
        none_before =
            λ e room less.
            not_passed _
            (λ q.
            let plan = (deadline_exact w formed k place overload_planner e room (omega (arith, less))).0 q in
            let wide = deadline_widen w k e (w.d k) (omega (arith, less)) plan.0 plan.1 in
            none (plan.0, rw (own_deadline w k) at wide));
        passes = λ less. absurd (omega (arith, less));
      }
