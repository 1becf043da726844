-- The law of plans, which names no schedule, that of rules of earliest deadline, and that of Jackson's schedule. The crates above
-- know this crate by them.
use Rattle.std.specs.Prelude.{ℕ, ◌<◌, ◌≡◌, ◌↔◌}
use Rattle.base.specs.Outcomes.{Code, answered, refused}
use Rattle.windows.specs.Windows.{Windows}
use Rattle.windows.specs.Plans.{Plan, Plannable, places_in, PlanBytes}
use Rattle.windows.specs.Intervals.{Fits, NoOverload, ShowsOverload, overload_of}
use Rattle.jackson.specs.Rules.{Follows}
use Rattle.jackson.specs.Minutes.{schedule, FollowsJackson}

-- the law of at most 255 windows that have room (`Roomy`); its last field holds of all windows
pub record PlanLaw (w : Windows) : Type 0 where
  -- "A plan exists exactly when no interval is overloaded."
  pub exists : Plannable w ↔ NoOverload w
  -- exactly when no [a, b), of whatever ends, has more work than minutes
  pub fits : Plannable w ↔ Fits w
  -- exactly when the overload test accepts the windows
  pub accepted : Plannable w ↔ overload_of w ≡ answered tt
  -- none exists exactly when it refuses them
  pub turned_back : (Plannable w → ⊥) ↔ (k : Code) × (overload_of w ≡ refused k)
  -- and that refusal is row 9 with the interval shown and its work
  pub shown : (k : Code) → overload_of w ≡ refused k → ShowsOverload w k

-- the law of rules, for windows that have room: a rule of earliest deadline, whatever it does with ties, followed from the day's first
-- minute on, makes a plan exactly if there is one
pub record RuleLaw (w : Windows) : Type 0 where
  pub plan : (m : ℕ → ℕ) (left : ℕ → ℕ → ℕ) → Follows w 0 m left → Plannable w ↔ Plan w m

-- the law of Jackson's preemptive schedule, for at most 255 windows that have room: it is a plan exactly if there is one; each of its
-- minutes has the place that the rule takes, and it is the only one of which this holds
pub record ScheduleLaw (w : Windows) : Type 0 where
  pub plan : Plannable w ↔ PlanBytes w (schedule w)
  pub follows : FollowsJackson w (places_in (schedule w))
  pub one : (m : ℕ → ℕ) → FollowsJackson w m → (t : ℕ) → t < w.h → m t ≡ places_in (schedule w) t
