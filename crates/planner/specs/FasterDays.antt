-- Request 7: "For every list the fast way and the defined way refuse alike or agree in windows, moves, bounds and plan bytes."
-- `faster_days` of proofs/FasterDays.antt proves it.
use Rattle.std.specs.Prelude.{ℕ, ◌+◌, ◌*◌, ◌-◌, ◌<◌, ◌≤◌, ◌≡◌, Bool, List, length, take, Result, Ok, Err}
use Rattle.base.specs.Outcomes.{Outcome, answered, refused, and_then}
use Rattle.list.specs.DayLists.{whole_in}
use Rattle.list.specs.Checks.{check_of}
use Rattle.list.specs.declared.types.DayList.{DayList}
use Rattle.list.specs.declared.types.Refusal.{Refusal}
use Rattle.list.specs.Refusals.{code_of}
use Rattle.windows.specs.Windows.{Windows, windows_of, with_r, with_d}
use Rattle.windows.specs.Mirrors.{mirror, mirror_bytes}
use Rattle.windows.specs.RunningSums.{LatestReleaseFirst}
use Rattle.jackson.specs.Minutes.{day_start, schedule}
use Rattle.jackson.specs.Stretches.{stretch_bytes}
use Rattle.narrow.specs.Rounds.{Narrowed}
use Rattle.narrow.specs.FastRounds.{fast_narrowing, fast_one_round}
use Rattle.narrow.specs.Calls.{settle_of, round_of}
use Rattle.bounds.specs.Ends.{least_ends, greatest_starts}
use Rattle.bounds.specs.FastEnds.{fast_end, fast_ends, fast_starts}
use Rattle.bounds.specs.ShownPlans.{bound_of, shown_plan}
use Rattle.bounds.specs.declared.types.Shown.{Shown}
use Rattle.bounds.specs.declared.types.Shown.TheVariants.{Early, Late}
use Rattle.planner.specs.Calls.{PlansDay}
use Rattle.planner.specs.declared.types.PlannedDay.{PlannedDay}

-- what is told of a planned day: the windows and moves, least ends and greatest starts by place, and the plan's bytes
pub record DayTold : Type 0 where
  pub narrowed : Narrowed
  pub ends : List ℕ
  pub starts : List ℕ
  pub bytes : List ℕ

-- the defined way: searches try each start and each end, from one minute to the next, and the schedule goes minute by minute
abbrev pub defined_told : (ℕ → Bool) → Narrowed → DayTold
defined_told whole v =
    let w = v.windows in
    record { narrowed = v; ends = least_ends whole w; starts = greatest_starts whole w; bytes = schedule w }

unfoldable pub defined_day : DayList → Outcome DayTold
defined_day l = and_then (settle_of l) (λ v. answered (defined_told (whole_in l) v))

-- a plan's bytes, stretch by stretch
abbrev pub stretch_plan : Windows → List ℕ
stretch_plan w = stretch_bytes (2 * w.n + 1) (day_start w)

-- the fast way: starts and ends by jumps, rounds from the first place that would move on, bounds in closed form, and the plan stretch by
-- stretch. `order` gives windows their places with the largest r first.
abbrev pub fast_told : (ℕ → Bool) → Narrowed → DayTold
fast_told whole v =
    let w = v.windows in
    record { narrowed = v; ends = fast_ends whole w; starts = fast_starts whole w; bytes = stretch_plan w }

abbrev pub fast_settle_of : (Windows → ℕ → ℕ) → DayList → Outcome Narrowed
fast_settle_of order l = and_then (check_of l) (λ _. fast_narrowing order (whole_in l) (windows_of l))

unfoldable pub fast_day : (Windows → ℕ → ℕ) → DayList → Outcome DayTold
fast_day order l = and_then (fast_settle_of order l) (λ v. answered (fast_told (whole_in l) v))

-- and one round, which tells no row 9
unfoldable pub fast_round_of : (Windows → ℕ → ℕ) → DayList → Outcome Narrowed
fast_round_of order l = and_then (check_of l) (λ _. fast_one_round order (whole_in l) (windows_of l))

-- the bound of place k that is shown, and its early or late plan
abbrev pub fast_bound : Shown → (ℕ → Bool) → ℕ → Windows → ℕ
fast_bound Early whole k w = fast_end whole w k
fast_bound Late whole k w = w.h - fast_end whole (mirror w) k

abbrev pub fast_shown : Shown → (ℕ → Bool) → ℕ → Windows → List ℕ
fast_shown Early whole k w = stretch_plan (with_d w k (fast_bound Early whole k w))
fast_shown Late whole k w = mirror_bytes w.h (stretch_plan (mirror (with_r w k (fast_bound Late whole k w))))

-- what `plan_day` tells, with the plan in the buffer that was lent to it
abbrev pub call_told : DayList → PlannedDay → List ℕ → DayTold
call_told l p new =
    record {
      narrowed = record { windows = windows_of p.narrowed.list; moves = p.narrowed.moves };
      ends = p.ends;
      starts = p.starts;
      bytes = take l.frame.h new;
    }

abbrev pub told_of : DayList → Result PlannedDay Refusal → List ℕ → Outcome DayTold
told_of l (Ok p) new = answered (call_told l p new)
told_of l (Err x) new = refused (code_of x)

pub record FasterDays : Type 0 where
  -- there is such an order of the places
  pub ordered : (order : Windows → ℕ → ℕ) × ((w : Windows) → LatestReleaseFirst w (order w))
  -- for every list the two ways refuse alike or agree in windows, moves, bounds and plan bytes
  pub days : (order : Windows → ℕ → ℕ) → ((w : Windows) → LatestReleaseFirst w (order w)) → (l : DayList) → fast_day order l ≡ defined_day l
  pub one_round : (order : Windows → ℕ → ℕ) → ((w : Windows) → LatestReleaseFirst w (order w)) → (l : DayList)
      → fast_round_of order l ≡ round_of l
  -- so do the bounds and plans that are shown
  pub bounds : (l : DayList) (v : Narrowed) → settle_of l ≡ answered v → (x : Shown) (k : ℕ) → k < v.windows.n
      → fast_bound x (whole_in l) k v.windows ≡ bound_of x (whole_in l) k v.windows
  pub shown : (l : DayList) (v : Narrowed) → settle_of l ≡ answered v → (x : Shown) (k : ℕ) → k < v.windows.n
      → fast_shown x (whole_in l) k v.windows ≡ shown_plan x (whole_in l) k v.windows
  -- and the defined way's is what `plan_day` answers, by its contract; a plan buffer under H bytes is refused by 11
  pub plans : (l : DayList) (old : List ℕ) (a : Result PlannedDay Refusal) (new : List ℕ) → PlansDay l old a new → l.frame.h ≤ length old
      → told_of l a new ≡ defined_day l
