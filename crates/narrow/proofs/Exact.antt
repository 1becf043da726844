-- With a planner's test the searches find the minutes of which document 01 speaks; those for ends by the mirror.
-- Assumes nothing.
use mathlib.Core.Path.{◌≡◌, refl, ap}
use mathlib.Core.Logic.{◌↔◌}
use mathlib.Core.Bool.{true}
use mathlib.Core.List.{[], ◌∷◌}
use Prim.Native.Nat.{ℕ, ◌+◌, ◌-◌, ◌<◌, ◌≤◌}
use native.Mathlib.Omega.{arith}
use borrow.Author.Tests.{eqb-true, eqb-false}
use lib.Dec.{eqb}
use Rattle.base.specs.Outcomes.{code, Outcome, answered, refused, and_then, accepts}
use Rattle.base.proofs.Inversion.{accepted_answered, Says, by_row}
use Rattle.windows.specs.Windows.{Windows, fixed_at, fixed_up_to, Formed}
use Rattle.windows.specs.Plans.{Plannable}
use Rattle.windows.specs.Mirrors.{mirror}
use Rattle.base.proofs.Sums.{le_or_lt}
use Rattle.base.proofs.Searches.{First, first_below_lem}
use Rattle.windows.specs.FixedEntries.{IsLeastStart, NoStart, IsGreatestEnd, NoEnd}
use Rattle.narrow.specs.Searching.{Test, start_count, failed_starts, least_start, greatest_end}
use Rattle.narrow.specs.Searching.{SearchLaw}
use Rattle.narrow.proofs.Planners.{Planner}
use Rattle.windows.proofs.Puts.{fixed_formed, up_to_formed}
use Rattle.windows.proofs.MirrorWindows.{plannable_mirror, mirror_plannable, formed_mirror, mirror_r, mirror_d, fixed_at_mirror}
use Rattle.narrow.proofs.MirrorSearches.{end_by_mirror}

-- Outcomes of a search.

-- the minute, or row 10 with k where there is none
abbrev pub SearchSays : (ℕ → Type 0) → Type 0 → ℕ → Outcome ℕ → Type 0
SearchSays Is None k = Says Is (λ x. (x ≡ code 10 (k ∷ [])) × None)

-- if there is at most one such minute, the outcome says all about it
module _ (Is : ℕ → Type 0) (None : Type 0) (k : ℕ) (one : (s t : ℕ) → Is s → Is t → s ≡ t) (some : (s : ℕ) → Is s → None → ⊥) where
  answered_is : (o : Outcome ℕ) → SearchSays Is None k o → (s : ℕ) → (o ≡ answered s) ↔ Is s
  answered_is o says s = (λ e. rw e at says, back o says)
    where
      back : (o : Outcome ℕ) → SearchSays Is None k o → Is s → o ≡ answered s
      back (answered t) there here = ap answered (one t s there here)
      back (refused x) (_, none) here = absurd (some s here none)

  refused_none : (o : Outcome ℕ) → SearchSays Is None k o → (o ≡ refused (code 10 (k ∷ []))) ↔ None
  refused_none o says = (λ e. (rw e at says).1, back o says)
    where
      back : (o : Outcome ℕ) → SearchSays Is None k o → None → o ≡ refused (code 10 (k ∷ []))
      back (answered t) there none = absurd (some t there none)
      back (refused x) (ten, _) none = ap refused ten

module _ (w : Windows) (k : ℕ) where
  -- there is at most one least start and one greatest end: neither of two comes before the other
  one : (s t : ℕ) → (t < s → ⊥) → (s < t → ⊥) → s ≡ t
  one s t a b = le_or_lt s t (λ l. le_or_lt t s (λ m. omega arith) (λ m. absurd (b m))) (λ l. absurd (a l))

  pub one_least_start : (s t : ℕ) → IsLeastStart w k s → IsLeastStart w k t → s ≡ t
  one_least_start s t a b = one s t (λ l. a.least t b.from_r l b.plan) (λ l. b.least s a.from_r l a.plan)

  pub one_greatest_end : (s t : ℕ) → IsGreatestEnd w k s → IsGreatestEnd w k t → s ≡ t
  one_greatest_end s t a b = one s t (λ l. b.greatest s l a.to_d a.plan) (λ l. a.greatest t l b.to_d b.plan)

  -- and where there is one it is not so that there is none
  pub some_start : (s : ℕ) → IsLeastStart w k s → NoStart w k → ⊥
  some_start s start none = none s start.from_r start.room start.plan

  pub some_end : (e : ℕ) → IsGreatestEnd w k e → NoEnd w k → ⊥
  some_end e end none = none e end.to_d end.room end.plan

-- Starts.

module _ {test : Test} (planner : Planner test) (w : Windows) (formed : Formed w) (k : ℕ) (place : k < w.n) where
  module _ (s : ℕ) (room : s + w.p k ≤ w.d k) where
    -- the test of a start asks whether a plan exists
    fixed_exact : Plannable (fixed_at w k s) ↔ (test (fixed_at w k s) ≡ answered tt)
    fixed_exact = planner.exact (fixed_at w k s) (fixed_formed w formed k s place room)

    pub plan_accepted : Plannable (fixed_at w k s) → accepts (test (fixed_at w k s)) ≡ true
    plan_accepted plan = ap accepts (fixed_exact.0 plan)

    pub accepted_plan : accepts (test (fixed_at w k s)) ≡ true → Plannable (fixed_at w k s)
    accepted_plan e = fixed_exact.1 (accepted_answered _ e)

  -- what the search for a start answers
  pub start_searched : SearchSays (IsLeastStart w k) (NoStart w k) k (least_start test w k)
  unfolding failed_starts least_start
  start_searched =
      by_row (IsLeastStart w k) _ (eqb j (start_count w k)) _ (answered (w.r k + j))
      (λ e. let full = eqb-true j (start_count w k) e in (refl, λ s from room. skipped s from (omega arith) room))
      (λ e.
      let ne = eqb-false j (start_count w k) e in
      let below : j < start_count w k = omega (arith, first.within) in
      record {
        from_r = omega arith;
        room = omega arith;
        plan = accepted_plan _ (omega arith) (first.passes below);
        least = λ x from less. skipped x from (omega arith) (omega arith);
      })
    where
      j : ℕ
      j = failed_starts test w k

      first : First (start_count w k) (λ i. accepts (test (fixed_at w k (w.r k + i)))) j
      first = first_below_lem (start_count w k) _

      -- the starts before have no plan
      skipped : (s : ℕ) → w.r k ≤ s → s - w.r k < j → s + w.p k ≤ w.d k → Plannable (fixed_at w k s) → ⊥
      skipped s from less room plan =
          let z : w.r k + (s - w.r k) ≡ s = omega arith in
          first.none_before (s - w.r k) less (rw z (plan_accepted s room plan))

-- Ends, by the mirror.

module _ (w : Windows) (formed : Formed w) (k : ℕ) (place : k < w.n) where
  module _ (e : ℕ) (due : e ≤ w.d k) (room : w.r k + w.p k ≤ e) where
    -- a plan exists for an end exactly when one does for the mirrored start
    end_fixed : fixed_at (mirror w) k (w.h - e) ≡ mirror (fixed_up_to w k e)
    end_fixed = fixed_at_mirror w k place e (omega arith) (omega (arith, formed.in_day k place))

    start_plan : Plannable (fixed_up_to w k e) → Plannable (fixed_at (mirror w) k (w.h - e))
    start_plan plan = rw end_fixed (plannable_mirror (fixed_up_to w k e) plan)

    end_plan : Plannable (fixed_at (mirror w) k (w.h - e)) → Plannable (fixed_up_to w k e)
    end_plan plan =
        mirror_plannable (fixed_up_to w k e) (up_to_formed w formed k e place (omega arith) due) (rw end_fixed at plan)

  -- the mirrored window, and its place in the day
  pub in_mirror : ((mirror w).r k ≡ w.h - w.d k) × ((mirror w).d k ≡ w.h - w.r k) × (w.d k ≤ w.h) × (w.r k + w.p k ≤ w.d k)
  in_mirror = (mirror_r w k place, mirror_d w k place, formed.in_day k place, formed.room k place)

  -- the least start of the mirror is the greatest end
  greatest_end_lem : (s : ℕ) → IsLeastStart (mirror w) k s → IsGreatestEnd w k (w.h - s)
  greatest_end_lem s start =
      let z = in_mirror in
      let from = start.from_r in
      let until = start.room in
      let due : w.h - s ≤ w.d k = omega arith in
      let room : w.r k + w.p k ≤ w.h - s = omega arith in
      let same : w.h - (w.h - s) ≡ s = omega arith in
      record {
        to_d = due;
        room = room;
        plan = end_plan (w.h - s) due room (rw same start.plan);
        greatest = λ x more l plan. start.least (w.h - x) (omega arith) (omega arith) (start_plan x l (omega arith) plan);
      }

  -- and where the mirror has no start there is no end
  none_ends : NoStart (mirror w) k → NoEnd w k
  none_ends none e due room plan =
      let z = in_mirror in
      none (w.h - e) (omega arith) (omega arith) (start_plan e due room plan)

module _ {test : Test} (planner : Planner test) (w : Windows) (formed : Formed w) (k : ℕ) (place : k < w.n) where
  -- what the search for an end answers
  pub end_searched : SearchSays (IsGreatestEnd w k) (NoEnd w k) k (greatest_end test w k)
  end_searched =
      rw (end_by_mirror planner w formed k place)
      (go (least_start test (mirror w) k) (start_searched planner (mirror w) (formed_mirror w formed) k place))
    where
      go : (o : Outcome ℕ) → SearchSays (IsLeastStart (mirror w) k) (NoStart (mirror w) k) k o
          → SearchSays (IsGreatestEnd w k) (NoEnd w k) k (and_then o (λ s. answered (w.h - s)))
      go (answered s) start = greatest_end_lem w formed k place s start
      go (refused x) (ten, none) = (ten, none_ends w formed k place none)

  pub search_law : SearchLaw test w k
  search_law =
      record {
        start_is = answered_is (IsLeastStart w k) (NoStart w k) k (one_least_start w k) (some_start w k) _ starts;
        no_start = refused_none (IsLeastStart w k) (NoStart w k) k (one_least_start w k) (some_start w k) _ starts;
        end_is = answered_is (IsGreatestEnd w k) (NoEnd w k) k (one_greatest_end w k) (some_end w k) _ end_searched;
        no_end = refused_none (IsGreatestEnd w k) (NoEnd w k) k (one_greatest_end w k) (some_end w k) _ end_searched;
      }
    where
      starts : SearchSays (IsLeastStart w k) (NoStart w k) k (least_start test w k)
      starts = start_searched planner w formed k place
