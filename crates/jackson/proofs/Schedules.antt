-- The run of Jackson's minutes from a state: it follows the rule, so it is a plan of the rest of the day where no interval has more work
-- than minutes. The day's schedule is the run from its first minute.
-- Assumes nothing.
use mathlib.Core.Path.{◌≡◌, refl, ap, ◌∙◌}
use mathlib.Core.Bool.{cond}
use mathlib.Core.Logic.{◌⊎◌, inl, inr}
use Prim.Native.Nat.{ℕ, zero, suc, ◌+◌, ◌-◌, ◌<◌, ◌≤◌}
use native.Mathlib.Omega.{arith}
use borrow.Author.Tests.{lt-ltb, le-ltb}
use lib.Dec.{ltb}
use lib.ListN.{length}
use Rattle.base.specs.Counting.{same}
use Rattle.windows.specs.Windows.{Windows, with_left, rest_from}
use Rattle.windows.specs.Plans.{Plan, PlanBytes, idle, places_in}
use Rattle.windows.specs.Intervals.{Fits}
use Rattle.jackson.specs.Rules.{EarliestDeadlineFirst, Follows}
use Rattle.jackson.specs.Minutes.{State, day_start, chosen, Takes, after, minute_of, later, place_at, schedule}
use Rattle.base.proofs.Sums.{le_or_lt}
use Rattle.base.proofs.Listed.{list_length, list_at}
use Rattle.windows.proofs.PlanFacts.{plan_same}
use Rattle.jackson.proofs.Choices.{chosen_takes}
use Rattle.jackson.proofs.RunningDays.{rest_of_day, run_plan}

-- One minute.

-- before the day's end the place chosen has it
pub minute_on : (s : State) → s.t < s.windows.h → minute_of s ≡ record { place = chosen s; next = after s (chosen s) }
unfolding minute_of
minute_on s h = rw (lt-ltb _ _ h)

-- after the day's end nothing changes
pub minute_over : (s : State) → s.windows.h ≤ s.t → minute_of s ≡ record { place = idle; next = s }
unfolding minute_of
minute_over s h = rw (le-ltb _ _ h)

module _ (s : State) where
  -- the windows stay, but for the minutes left
  minute_keeps : (minute_of s).next.windows ≡ with_left s.windows (minute_of s).next.windows.p
  minute_keeps = le_or_lt s.windows.h s.t (λ h. rw (minute_over s h)) (λ h. rw (minute_on s h))

  module _ (on : s.t < s.windows.h) where
    minute_time : (minute_of s).next.t ≡ s.t + 1
    minute_time = rw (minute_on s on)

    minute_left : (i : ℕ) → (minute_of s).next.windows.p i ≡ s.windows.p i - same (minute_of s).place i
    minute_left i = rw (minute_on s on)

    minute_last : (minute_of s).next.last ≡ (minute_of s).place
    minute_last = rw (minute_on s on)

    minute_takes : s.windows.n ≤ 255 → Takes s (minute_of s).place
    minute_takes few = rw (minute_on s on) (chosen_takes s few)

-- Minutes after one another.

module _ (s : State) where
  -- the state k minutes later has the same windows, but for the minutes left
  pub later_keeps : (k : ℕ) → (later k s).windows ≡ with_left s.windows (later k s).windows.p
  unfolding later
  later_keeps zero = refl
  later_keeps (suc k) = minute_keeps (later k s) ∙ ap (λ (w : Windows). with_left w (later (suc k) s).windows.p) (later_keeps k)

  -- its day has the same length and equally many entries
  pub later_h : (k : ℕ) → (later k s).windows.h ≡ s.windows.h
  later_h k = ap (λ (w : Windows). w.h) (later_keeps k)

  pub later_n : (k : ℕ) → (later k s).windows.n ≡ s.windows.n
  later_n k = ap (λ (w : Windows). w.n) (later_keeps k)

  -- it is k minutes later, up to the day's end
  pub later_time : (k : ℕ) → s.t + k ≤ s.windows.h → (later k s).t ≡ s.t + k
  unfolding later
  later_time zero h = omega arith
  later_time (suc k) h =
      let e = later_time k (omega arith) in
      omega (arith, minute_time (later k s) (omega (arith, later_h k)))

  module _ (k : ℕ) (on : s.t + k < s.windows.h) where
    running : (later k s).t < (later k s).windows.h
    running = omega (arith, later_time k (omega arith), later_h k)

    -- the place that has the minute has one minute less left after it
    pub later_left : (i : ℕ) → (later (suc k) s).windows.p i ≡ (later k s).windows.p i - same (place_at s k) i
    unfolding later
    later_left = minute_left (later k s) running

    -- it is the one that had the minute before the next
    pub later_last : (later (suc k) s).last ≡ place_at s k
    unfolding later
    later_last = minute_last (later k s) running

    -- it is the place that the rule takes
    pub later_takes : s.windows.n ≤ 255 → Takes (later k s) (place_at s k)
    later_takes few = minute_takes (later k s) running (omega (arith, later_n k))

-- Runs.

module _ (s : State) where
  -- the place that has minute t in the run from s; none has one before the minute of s
  abbrev pub run_place : ℕ → ℕ
  run_place t = cond (ltb t s.t) idle (place_at s (t - s.t))

  -- the minutes that each entry has left at minute t
  abbrev pub run_left : ℕ → ℕ → ℕ
  run_left t = (later (t - s.t) s).windows.p

  pub run_before : (t : ℕ) → t < s.t → run_place t ≡ idle
  run_before t h = rw (lt-ltb t s.t h)

  pub run_at : (t : ℕ) → s.t ≤ t → run_place t ≡ place_at s (t - s.t)
  run_at t h = rw (le-ltb t s.t h)

  module _ (few : s.windows.n ≤ 255) where
    run_takes : (t : ℕ) → s.t ≤ t → t < s.windows.h → EarliestDeadlineFirst (with_left s.windows (run_left t)) t (run_place t)
    run_takes t h l =
        let k = t - s.t in
        let e : (later k s).t ≡ t = omega (arith, later_time s k (omega arith)) in
        rw (run_at t h) (rw (later_keeps s k, e) at (later_takes s k (omega arith) few).deadline)

    -- a run follows the rule
    pub run_follows : Follows s.windows s.t run_place run_left
    unfolding later
    run_follows =
        record {
          before = λ t h. omega (arith, run_before t h);
          start = λ i l. let z : s.t - s.t ≡ 0 = omega arith in rw (run_left, z);
          next =
              λ t i h l _.
              let z : suc t - s.t ≡ suc (t - s.t) = omega arith in
              rw (run_left, z, run_at t h) (later_left s (t - s.t) (omega arith) i);
          takes = run_takes;
        }

    -- so it is a plan of the rest of the day, if that fits
    pub run_plans : s.t ≤ s.windows.h
        → ((i : ℕ) → i < s.windows.n → 1 ≤ s.windows.p i → s.windows.d i ≤ s.windows.h)
        → Fits (rest_from s.t s.windows)
        → Plan (rest_from s.t s.windows) run_place
    run_plans = run_plan s.windows s.t run_place run_left run_follows

-- The day's schedule.

module _ (w : Windows) where
  -- it has a byte for each minute
  pub schedule_long : length (schedule w) ≡ w.h
  unfolding schedule
  schedule_long = list_length w.h _

  -- the place that has it
  pub schedule_at : (t : ℕ) → t < w.h → places_in (schedule w) t ≡ place_at (day_start w) t
  unfolding schedule
  schedule_at = list_at w.h (place_at (day_start w)) idle

module _ (w : Windows) (few : w.n ≤ 255) where
  -- each minute's place is the one that the rule takes
  pub schedule_takes : (t : ℕ) → t < w.h → Takes (later t (day_start w)) (place_at (day_start w) t)
  schedule_takes t h = later_takes (day_start w) t (omega arith) few

  -- a place of the day, or idle
  schedule_places : (t : ℕ) → t < w.h → (place_at (day_start w) t < w.n) ⊎ (place_at (day_start w) t ≡ idle)
  schedule_places t h =
      le_or_lt w.n (place_at (day_start w) t)
      (λ over. inr ((schedule_takes t h).idles (omega (arith, later_n (day_start w) t))))
      inl

  -- the schedule is a plan, if the day fits
  pub schedule_bytes : ((i : ℕ) → i < w.n → 1 ≤ w.p i → w.d i ≤ w.h) → Fits w → PlanBytes w (schedule w)
  schedule_bytes in_day fits =
      record {
        long = schedule_long w;
        places = λ t h. rw (schedule_at w t h) (schedule_places t h);
        plan = plan_same w (run_place (day_start w)) _ each (rw (rest_of_day w) at run);
      }
    where
      run : Plan (rest_from 0 w) (run_place (day_start w))
      run = run_plans (day_start w) few (omega arith) in_day (rw (rest_of_day w) fits)

      each : (t : ℕ) → t < w.h → places_in (schedule w) t ≡ run_place (day_start w) t
      each t h =
          let z : t - 0 ≡ t = omega arith in
          rw (schedule_at w t h, run_at (day_start w) t (omega arith), z)
