-- Demand 2: "the plan equals, minute for minute, Jackson's schedule of the narrowed windows".
use Rattle.std.specs.Prelude.{ℕ, ◌<◌, ◌≡◌, ◌↔◌, Bool, true, List}
use Rattle.windows.specs.Windows.{Windows}
use Rattle.windows.specs.Plans.{places_in, PlanBytes}
use Rattle.jackson.specs.Minutes.{schedule, FollowsJackson}
use Rattle.planner.specs.BrokenEntries.{is_broken, broken_in, Broken}

-- demand 2 of bytes in the narrowed windows w: they equal, minute for minute, Jackson's schedule of these windows, so each minute has the
-- place that the rule takes; they are a plan, and the entries counted as broken are the whole ones whose minutes are not consecutive
pub record PlansWindows (whole : ℕ → Bool) (w : Windows) (bytes : List ℕ) (broken : ℕ) : Type 0 where
  pub minutes : bytes ≡ schedule w
  pub follows : FollowsJackson w (places_in bytes)
  pub plan : PlanBytes w bytes
  pub count : broken ≡ broken_in whole w (places_in bytes)
  pub broken_is : (i : ℕ) → i < w.n → (is_broken whole w.h (places_in bytes) i ≡ true) ↔ Broken whole w.h (places_in bytes) i
