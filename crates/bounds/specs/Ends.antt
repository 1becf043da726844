-- Least ends and greatest starts.
use Rattle.std.specs.Prelude.{ℕ, ◌+◌, ◌-◌, ◌≡◌, Bool, true, cond, List}
use Rattle.base.specs.Counting.{first_below}
use Rattle.list.specs.DayLists.{by_place}
use Rattle.windows.specs.Windows.{Windows, with_r, with_d}
use Rattle.windows.specs.Plans.{Plan, Consecutive}
use Rattle.windows.specs.Intervals.{overload_of}
use Rattle.narrow.specs.Searching.{Test}
use Rattle.base.specs.Outcomes.{accepts}

-- the minutes of its window that entry k does not need
abbrev pub spare : Windows → ℕ → ℕ
spare w k = w.d k - (w.r k + w.p k)

-- how many ends, from r + p up, come before the first that has a plan when it is entry k's d; d itself is not tested: in settled windows
-- it has one
unfoldable pub failed_deadlines : Test → Windows → ℕ → ℕ
failed_deadlines test w k = first_below (spare w k) (λ j. accepts (test (with_d w k (w.r k + w.p k + j))))

-- how many starts, from d - p down, come before the first that has a plan when it is entry k's r; nor does r itself need one
unfoldable pub failed_releases : Test → Windows → ℕ → ℕ
failed_releases test w k = first_below (spare w k) (λ j. accepts (test (with_r w k (w.d k - w.p k - j))))

-- "a pause entry has its least end .. over all plans. A whole entry has r + p": that it is over all plans is `end_bound` and `early_is` of
-- Demand3.antt of the crate planner
unfoldable pub least_end : Test → (ℕ → Bool) → Windows → ℕ → ℕ
least_end test whole w k = cond (whole k) (w.r k + w.p k) (w.r k + w.p k + failed_deadlines test w k)

-- "a pause entry has its .. greatest start over all plans. A whole entry has .. d - p": `start_bound` and `late_is`
unfoldable pub greatest_start : Test → (ℕ → Bool) → Windows → ℕ → ℕ
greatest_start test whole w k = cond (whole k) (w.d k - w.p k) (w.d k - w.p k - failed_releases test w k)

-- the least ends and greatest starts of all places
abbrev pub least_ends : (ℕ → Bool) → Windows → List ℕ
least_ends whole w = by_place w.n (least_end overload_of whole w)

abbrev pub greatest_starts : (ℕ → Bool) → Windows → List ℕ
greatest_starts whole w = by_place w.n (greatest_start overload_of whole w)

-- a plan in the windows w that keeps entry k itself in one piece if it is whole
pub record Keeping (whole : ℕ → Bool) (w : Windows) (k : ℕ) (m : ℕ → ℕ) : Type 0 where
  pub plan : Plan w m
  pub unbroken : whole k ≡ true → (s : ℕ) × Consecutive w.h m k s (s + w.p k)
