-- Demand 3 holds of what is told as the definitions have it, and Jackson's schedule is demand 2's plan.
-- Assumes nothing.
use mathlib.Core.Path.{◌≡◌, refl, ap}
use mathlib.Core.Bool.{Bool}
use Prim.Native.Nat.{ℕ, ◌<◌}
use native.Mathlib.Omega.{arith}
use Rattle.base.specs.Outcomes.{answered}
use Rattle.windows.specs.Windows.{Windows, Formed}
use Rattle.windows.specs.Plans.{places_in, PlanBytes, Plannable}
use Rattle.windows.specs.Intervals.{overload_of}
use Rattle.jackson.specs.Minutes.{schedule}
use Rattle.jackson.specs.Laws.{ScheduleLaw}
use Rattle.jackson.proofs.Law.{schedule_law}
use Rattle.narrow.specs.Rounds.{Narrowed, narrowing}
use Rattle.narrow.specs.Laws.{NarrowLaw}
use Rattle.windows.proofs.Room.{formed_roomy}
use Rattle.narrow.proofs.OverloadPlanner.{overload_planner}
use Rattle.narrow.proofs.Fixpoints.{widest_formed}
use Rattle.narrow.proofs.NarrowLaws.{narrow_law}
use Rattle.bounds.specs.Ends.{least_end, greatest_start}
use Rattle.planner.specs.BrokenEntries.{broken_in}
use Rattle.planner.specs.Demand3.{Told, Demand3}
use Rattle.planner.specs.Demand2.{PlansWindows}
use Rattle.bounds.specs.ShownPlans.{shown_plan}
use Rattle.bounds.specs.declared.types.Shown.TheVariants.{Early, Late}
use Rattle.bounds.proofs.EndBounds.{end_bound, early_is}
use Rattle.bounds.proofs.StartBounds.{start_bound, late_is}
use Rattle.planner.proofs.BrokenFacts.{broken_exactly}

-- what is told of entry k is what is defined for the windows w
pub record AtPlace (whole : ℕ → Bool) (w : Windows) (told : Told) (k : ℕ) : Type 0 where
  pub end : told.end k ≡ least_end overload_of whole w k
  pub start : told.start k ≡ greatest_start overload_of whole w k
  pub early : told.early k ≡ shown_plan Early whole k w
  pub late : told.late k ≡ shown_plan Late whole k w

-- of each entry, in the windows answered
abbrev pub ByRules : (ℕ → Bool) → Told → Type 0
ByRules whole told = (v : Narrowed) → told.outcome ≡ answered v → (k : ℕ) → k < v.windows.n → AtPlace whole v.windows told k

pub demand3 : (whole : ℕ → Bool) (w : Windows) → Formed w → (told : Told) → told.outcome ≡ narrowing overload_of whole w
    → ByRules whole told → Demand3 whole w told
demand3 whole w formed told is rules =
    record {
      narrowing = law;
      end_bound =
          λ v e k place m keeping x end.
          rw (here v e k place).end
          (end_bound overload_planner whole v.windows (formed_of v e) k (in_n v e k place) m keeping x (rw (same_h v e) end));
      start_bound =
          λ v e k place m keeping x start.
          rw (here v e k place).start
          (start_bound overload_planner whole v.windows (formed_of v e) k (in_n v e k place) m keeping x (rw (same_h v e) start));
      early_is =
          λ v e k place.
          rw ((here v e k place).end, (here v e k place).early)
          (early_is overload_planner whole v.windows (formed_of v e) k (in_n v e k place) (law.widest v e).settled);
      late_is =
          λ v e k place.
          rw ((here v e k place).start, (here v e k place).late)
          (late_is overload_planner whole v.windows (formed_of v e) k (in_n v e k place) (law.widest v e).settled);
    }
  where
    law : NarrowLaw overload_of whole w told.outcome
    law = rw is (narrow_law overload_planner whole w formed)

    formed_of : (v : Narrowed) → told.outcome ≡ answered v → Formed v.windows
    formed_of v e = widest_formed whole w v.windows formed (law.widest v e)

    same_h : (v : Narrowed) → told.outcome ≡ answered v → v.windows.h ≡ w.h
    same_h v e = ap (λ (u : Windows). u.h) (law.widest v e).entries

    in_n : (v : Narrowed) → told.outcome ≡ answered v → (k : ℕ) → k < w.n → k < v.windows.n
    in_n v e k place = rw (ap (λ (u : Windows). u.n) (law.widest v e).entries) place

    here : (v : Narrowed) → told.outcome ≡ answered v → (k : ℕ) → k < w.n → AtPlace whole v.windows told k
    here v e k place = rules v e k (in_n v e k place)

-- where a plan exists, the schedule is one, and the entries counted are those that it breaks
pub plans_windows : (whole : ℕ → Bool) (w : Windows) → Formed w → Plannable w
    → PlansWindows whole w (schedule w) (broken_in whole w (places_in (schedule w)))
plans_windows whole w formed planned =
    record {
      minutes = refl;
      follows = law.follows;
      plan = bytes;
      count = refl;
      broken_is =
          λ i place.
          broken_exactly w.h (places_in (schedule w)) i (omega (arith, bytes.plan.exact i place, formed.minutes i place)) whole;
    }
  where
    law : ScheduleLaw w
    law = schedule_law w (formed_roomy w formed) formed.few

    bytes : PlanBytes w (schedule w)
    bytes = law.plan.0 planned
