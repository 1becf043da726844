-- The law: a plan exists exactly when no interval is overloaded, and then every rule of earliest deadline makes one, Jackson's among them,
-- whose schedule is the only one that follows it.
-- Assumes nothing.
use mathlib.Core.Path.{◌≡◌, refl}
use Prim.Native.Nat.{ℕ, ◌≤◌}
use native.Mathlib.Omega.{arith}
use Rattle.base.specs.Outcomes.{Code, Outcome, answered, refused}
use Rattle.windows.specs.Windows.{Windows, rest_from, Roomy}
use Rattle.windows.specs.Plans.{Plan, PlanBytes, places_in, Plannable}
use Rattle.windows.specs.Intervals.{Fits, NoOverload, overload_of}
use Rattle.windows.proofs.PlanWork.{plan_fits}
use Rattle.windows.proofs.Endpoints.{fits_none, none_fits}
use Rattle.windows.proofs.ShownInterval.{accepted_none, none_accepted, refused_shown}
use Rattle.jackson.specs.Rules.{Follows}
use Rattle.jackson.specs.Minutes.{schedule}
use Rattle.jackson.specs.Laws.{PlanLaw, RuleLaw, ScheduleLaw}
use Rattle.jackson.proofs.RunningDays.{rest_of_day, run_plan}
use Rattle.jackson.proofs.Schedules.{schedule_bytes}
use Rattle.jackson.proofs.OneSchedule.{schedule_follows, one_follows}

-- a plan leaves no interval with more work than minutes, so every rule of earliest deadline makes a plan
pub rule_law : (w : Windows) → Roomy w → RuleLaw w
rule_law w roomy = record { plan = λ m left run. (made m left run, λ plan. (m, plan)) }
  where
    made : (m : ℕ → ℕ) (left : ℕ → ℕ → ℕ) → Follows w 0 m left → Plannable w → Plan w m
    made m left run planned =
        let fits : Fits (rest_from 0 w) = rw (rest_of_day w) (plan_fits w planned.0 planned.1) in
        rw (rest_of_day w) at (run_plan w 0 m left run (omega arith) roomy.in_day fits)

module _ (w : Windows) (roomy : Roomy w) (few : w.n ≤ 255) where
  -- the steps from a plan to no overload, and from that to the schedule
  none_of_plan : Plannable w → NoOverload w
  none_of_plan planned = fits_none w (plan_fits w planned.0 planned.1)

  bytes_of_none : NoOverload w → PlanBytes w (schedule w)
  bytes_of_none none = schedule_bytes w few roomy.in_day (none_fits w roomy.room none)

  plan_of_bytes : PlanBytes w (schedule w) → Plannable w
  plan_of_bytes bytes = (places_in (schedule w), bytes.plan)

  plan_of_none : NoOverload w → Plannable w
  plan_of_none none = plan_of_bytes (bytes_of_none none)

  plan_of_accepted : overload_of w ≡ answered tt → Plannable w
  plan_of_accepted e = plan_of_none (accepted_none w e)

  accepted_of_plan : Plannable w → overload_of w ≡ answered tt
  accepted_of_plan planned = none_accepted w (none_of_plan planned)

  refused_of_unplanned : (Plannable w → ⊥) → (k : Code) × (overload_of w ≡ refused k)
  refused_of_unplanned unplanned = go (overload_of w) refl
    where
      go : (o : Outcome (Unit {0})) → overload_of w ≡ o → (k : Code) × (overload_of w ≡ refused k)
      go (answered t) e = absurd (unplanned (plan_of_accepted e))
      go (refused k) e = (k, e)

  unplanned_of_refused : (k : Code) × (overload_of w ≡ refused k) → Plannable w → ⊥
  unplanned_of_refused z planned = let e : ◌≡◌ {A = ℕ} 0 1 = cc (accepted_of_plan planned, z.1) in omega arith

  pub plan_law : PlanLaw w
  plan_law =
      record {
        exists = (none_of_plan, plan_of_none);
        fits = (λ planned. plan_fits w planned.0 planned.1, λ f. plan_of_none (fits_none w f));
        accepted = (accepted_of_plan, plan_of_accepted);
        turned_back = (refused_of_unplanned, unplanned_of_refused);
        shown = refused_shown w;
      }

  pub schedule_law : ScheduleLaw w
  schedule_law =
      record {
        plan = (λ planned. bytes_of_none (none_of_plan planned), plan_of_bytes);
        follows = schedule_follows w few;
        one = λ m follows. one_follows w m (places_in (schedule w)) follows (schedule_follows w few);
      }
