-- The law for lists: it holds of the windows of a well-formed list; and what the public calls' outcomes decide.
-- Assumes nothing.
use mathlib.Core.Path.{◌≡◌, refl}
use Prim.Native.Nat.{ℕ}
use native.Mathlib.Omega.{arith}
use lib.Dec.{ltb}
use Rattle.base.specs.Outcomes.{Code, Outcome, answered, refused, and_then}
use Rattle.list.specs.Checks.{check_of, WellFormed}
use Rattle.list.specs.declared.types.DayList.{DayList}
use Rattle.base.proofs.Inversion.{Says, by_row}
use Rattle.list.proofs.Sound.{check_says}
use Rattle.windows.specs.Windows.{windows_of}
use Rattle.windows.specs.Plans.{PlanBytes, places_in, Plannable}
use Rattle.windows.specs.Intervals.{ShowsOverload, overload_of}
use Rattle.windows.proofs.Room.{formed_roomy}
use Rattle.windows.proofs.FormedLists.{list_formed}
use Rattle.jackson.specs.Laws.{PlanLaw, ScheduleLaw}
use Rattle.jackson.specs.Minutes.{schedule, FollowsJackson}
use Rattle.jackson.specs.Calls.{test_of, Decides, fill_of}
use Rattle.jackson.proofs.Law.{plan_law, schedule_law}

module _ (l : DayList) (formed : WellFormed l) where
  -- the law holds of them
  pub list_law : PlanLaw (windows_of l)
  list_law = plan_law (windows_of l) (formed_roomy (windows_of l) (list_formed l formed)) (list_formed l formed).few

  pub list_schedule_law : ScheduleLaw (windows_of l)
  list_schedule_law = schedule_law (windows_of l) (formed_roomy (windows_of l) (list_formed l formed)) (list_formed l formed).few

-- What the calls' outcomes decide.

-- a refusal that is not row 9
abbrev NotNine : Code → Type 0
NotNine k = k.number ≡ 9 → ⊥

module _ (l : DayList) where
  -- the schedule is a plan and follows the rule
  abbrev pub Planned : Type 0
  Planned = PlanBytes (windows_of l) (schedule (windows_of l)) × FollowsJackson (windows_of l) (places_in (schedule (windows_of l)))

  -- by an answer it is, by row 9 there is no plan
  abbrev Tells : Outcome (Unit {0}) → Type 0
  Tells =
      Says (λ _. Planned)
      (λ k. k.number ≡ 9 → (Plannable (windows_of l) → ⊥) × ShowsOverload (windows_of l) k)

  tells_decides : (o : Outcome (Unit {0})) → Tells o → Decides l o
  tells_decides o tells =
      record {
        planned =
            λ e.
            let so : Planned = rw e at tells in
            (places_in (schedule (windows_of l)), so.0.plan);
        unplanned = λ k e nine. ((rw e at tells) nine).0;
        shown = λ k e nine. ((rw e at tells) nine).1;
      }

  -- the overload test of a well-formed list tells that
  overload_tells : WellFormed l → Tells (overload_of (windows_of l))
  overload_tells formed = go (overload_of (windows_of l)) refl
    where
      go : (o : Outcome (Unit {0})) → overload_of (windows_of l) ≡ o → Tells o
      go (answered t) e =
          let law = list_schedule_law l formed in
          (law.plan.0 ((list_law l formed).accepted.1 e), law.follows)
      go (refused k) e = λ _. ((list_law l formed).turned_back.1 (k, e), (list_law l formed).shown k e)

  -- and what tells it of well-formed lists does of all, once the value check comes first
  checked_tells : (o : Outcome (Unit {0})) → (WellFormed l → Tells o) → Tells (and_then (check_of l) (λ _. o))
  checked_tells o rest =
      go (check_of l) refl
      (check_says l NotNine (λ _ _ h z. omega arith) (λ _ _ h z. omega arith) (λ _ _ z. omega arith))
    where
      go : (c : Outcome (Unit {0})) → check_of l ≡ c → Says (λ _. WellFormed l) NotNine c → Tells (and_then c (λ _. o))
      go (answered t) e _ = rest e
      go (refused k) e other = λ nine. absurd (other nine)

  pub test_decides : Decides l (test_of l)
  unfolding test_of
  test_decides = tells_decides _ (checked_tells _ overload_tells)

  fill_tells : (room : ℕ) → Tells (fill_of l room)
  unfolding fill_of
  fill_tells room =
      checked_tells _ (λ formed. by_row _ _ (ltb room l.frame.h) _ _ (λ _ z. absurd (omega arith)) (λ _. overload_tells formed))

  pub fill_decides : (room : ℕ) → Decides l (fill_of l room)
  fill_decides room = tells_decides (fill_of l room) (fill_tells room)

  pub fill_plans : (room : ℕ) → fill_of l room ≡ answered tt → Planned
  fill_plans room e = rw e at (fill_tells room)
