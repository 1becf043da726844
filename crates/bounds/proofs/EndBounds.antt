-- In settled windows no plan has an end before the least end, and the early plan has that.
-- Assumes nothing.
use mathlib.Core.Path.{◌≡◌, refl, sym, ◌∙◌}
use mathlib.Core.Bool.{Bool, true, false, cond, true≢false}
use Prim.Native.Nat.{ℕ, ◌+◌, ◌-◌, ◌<◌, ◌≤◌}
use native.Mathlib.Omega.{arith}
use Rattle.windows.specs.Windows.{Windows, with_d, fixed_at, Formed}
use Rattle.windows.specs.Plans.{Plan, IsEnd, end_of, places_in, PlanBytes, Plannable, Consecutive}
use Rattle.jackson.specs.Laws.{ScheduleLaw}
use Rattle.base.proofs.Sums.{le_or_lt}
use Rattle.windows.proofs.PlanFacts.{minutes_within, other_windows, plan_end, end_due}
use Rattle.jackson.proofs.Law.{schedule_law}
use Rattle.narrow.specs.Searching.{Test}
use Rattle.narrow.specs.Settling.{Settled}
use Rattle.narrow.proofs.Planners.{Planner}
use Rattle.windows.proofs.Room.{formed_roomy}
use Rattle.windows.proofs.Puts.{place_cases, put_same, with_d_lem, consecutive_fixed, fixed_consecutive}
use Rattle.windows.proofs.Puts.{own_deadline, deadline_widen, deadline_formed}
use Rattle.bounds.specs.Ends.{least_end, Keeping}
use Rattle.bounds.specs.ShownPlans.{early_plan, IsEarly}
use Rattle.bounds.proofs.EndSearches.{deadline_exact, least_end_whole, least_end_first, least_end_range}

-- Plans.

module _ (w : Windows) (m : ℕ → ℕ) (plan : Plan w m) (k : ℕ) (place : k < w.n) (e : ℕ) (end : IsEnd w.h m k e) where
  -- all minutes of an entry come before its end
  before_end : (t : ℕ) → t < w.h → m t ≡ k → (w.r k ≤ t) × (t < e)
  before_end t below q =
      ((plan.inside k t place below q).0, le_or_lt e t (λ l. absurd (end.none_after t l below q)) (λ l. l))

  -- so it comes no sooner than r + p
  end_room : 1 ≤ w.p k → w.r k + w.p k ≤ e
  end_room some = omega (arith, plan.exact k place, minutes_within w.h m k (w.r k) e before_end)

  -- and by d
  end_deadline : e ≤ w.d k
  end_deadline =
      let one = end.after_one in
      omega (arith, (plan.inside k (e - 1) place (omega (arith, end.within)) end.minute).1)

  -- and the plan is one with the end as k's d
  ends_plan : Plan (with_d w k e) m
  ends_plan =
      other_windows w _ _ m plan
      (λ i t here below q.
      let z = plan.inside i t here below q in
      (z.0, place_cases (λ c. t < cond c e (w.d i)) i k (λ s. (before_end t below (q ∙ s)).1) (λ _. z.1)))

module _ {test : Test} (planner : Planner test) (whole : ℕ → Bool) (w : Windows) (formed : Formed w) (k : ℕ) (place : k < w.n) where
  abbrev least : ℕ
  least = least_end test whole w k

  -- no plan has an end before the least one
  pub end_least : (m : ℕ → ℕ) → Plan w m → (e : ℕ) → IsEnd w.h m k e → least ≤ e
  end_least m plan e end = go (whole k) refl
    where
      room : w.r k + w.p k ≤ e
      room = end_room w m plan k place e end (formed.minutes k place)

      go : (t : Bool) → whole k ≡ t → least ≤ e
      go true is = omega (arith, room, least_end_whole test whole w k is)
      go false is =
          le_or_lt least e (λ l. l)
          (λ l.
          let exact = deadline_exact w formed k place planner e room (end_deadline w m plan k place e end) in
          let found = exact.1 (m, ends_plan w m plan k place e end) in
          absurd (true≢false (sym found ∙ (least_end_first test whole w formed k place is).none_before e room l)))

  -- in particular none that keeps k in one piece
  pub end_bound : (m : ℕ → ℕ) → Keeping whole w k m → (e : ℕ) → IsEnd w.h m k e → least ≤ e
  end_bound m keeping = end_least m keeping.plan

  -- the window of a whole entry up to its least end
  whole_fixed : whole k ≡ true → fixed_at w k (w.r k) ≡ with_d w k least
  whole_fixed is = rw (least_end_whole test whole w k is) (with_d_lem w k (w.r k + w.p k))

  module _ (settled : Settled whole w) where
    -- a plan exists with the least end as k's d
    least_plan : Plannable (with_d w k least)
    least_plan = go (whole k) refl
      where
        go : (t : Bool) → whole k ≡ t → Plannable (with_d w k least)
        go true is =
            let z = settled.from_r k place is in
            (z.0, rw (whole_fixed is) at (consecutive_fixed w z.0 k (w.r k) z.1 z.2))
        go false is =
            let first = least_end_first test whole w formed k place is in
            le_or_lt (w.d k) least
            (λ l. let e : least ≡ w.d k = omega (arith, first.due) in rw (e, own_deadline w k) settled.plan)
            (λ l. (deadline_exact w formed k place planner least first.room first.due).0 (first.passes l))

    early_law : ScheduleLaw (with_d w k least)
    early_law =
        let range = least_end_range test whole w formed k place in
        let there = deadline_formed w formed k place least range.0 range.1 in
        schedule_law (with_d w k least) (formed_roomy _ there) there.few

    -- so the early plan is a plan with that d
    deadline_bytes : PlanBytes (with_d w k least) (early_plan w k least)
    deadline_bytes = early_law.plan.0 least_plan

    -- which is a plan of the windows, in one piece if k is whole, with the least end
    pub early_is : IsEarly whole w k least (early_plan w k least)
    early_is =
        record {
          rule = refl;
          follows = early_law.follows;
          plan = bytes;
          keeping = record { plan = bytes.plan; unbroken = unbroken };
          end = end;
        }
      where
        m : ℕ → ℕ
        m = places_in (early_plan w k least)

        bytes : PlanBytes w (early_plan w k least)
        bytes =
            let due = (least_end_range test whole w formed k place).1 in
            record {
              long = deadline_bytes.long;
              places = deadline_bytes.places;
              plan = rw (own_deadline w k) at (deadline_widen w k least (w.d k) due m deadline_bytes.plan);
            }

        unbroken : whole k ≡ true → (s : ℕ) × Consecutive w.h m k s (s + w.p k)
        unbroken is =
            (w.r k, fixed_consecutive w formed k (w.r k) place (formed.room k place) m (rw (whole_fixed is) deadline_bytes.plan))

        end : IsEnd w.h m k least
        end =
            let some = formed.minutes k place in
            let there = plan_end w m bytes.plan k place some in
            let due = end_due (with_d w k least) m deadline_bytes.plan k place some in
            let e : end_of w.h m k ≡ least = omega (arith, put_same k least w.d, end_least m bytes.plan _ there) in
            rw e at there
