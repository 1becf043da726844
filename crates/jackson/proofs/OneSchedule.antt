-- The schedule's own minutes follow Jackson's rule, and no others do.
-- Assumes nothing.
use mathlib.Core.Path.{◌≡◌, refl, ◌∙◌, ap, fun_ext}
use Prim.Native.Nat.{ℕ, zero, suc, ◌-◌, ◌<◌, ◌≤◌}
use native.Mathlib.Omega.{arith}
use Rattle.base.specs.Counting.{sum}
use Rattle.windows.specs.Windows.{Windows, with_left}
use Rattle.windows.specs.Plans.{minutes_of, places_in}
use Rattle.jackson.specs.Minutes.{day_start, later, place_at, schedule, had_before, state_after, FollowsJackson}
use Rattle.base.proofs.Sums.{below_suc}
use Rattle.windows.proofs.PlanFacts.{minutes_same}
use Rattle.jackson.proofs.Choices.{takes_one}
use Rattle.jackson.proofs.Schedules.{later_keeps, later_time, later_left, later_last, schedule_at, schedule_takes}

-- two that agree in their first minutes lead to the same state
states_agree : (w : Windows) (m x : ℕ → ℕ) (t : ℕ) → ((j : ℕ) → j < t → m j ≡ x j) → state_after w m t ≡ state_after w x t
states_agree w m x t agree = λ j. record { windows = with_left w (left j); t = t; last = last t agree j }
  where
    left : ◌≡◌ {A = ℕ → ℕ} (λ i. w.p i - minutes_of t m i) (λ i. w.p i - minutes_of t x i)
    left = fun_ext (λ i. ap (λ (k : ℕ). w.p i - k) (minutes_same t m x i agree))

    last : (t : ℕ) → ((j : ℕ) → j < t → m j ≡ x j) → had_before m t ≡ had_before x t
    last zero agree = refl
    last (suc t) agree = agree t (omega arith)

-- what agrees in the day's minutes with one that follows the rule follows it
pub follows_same : (w : Windows) (m x : ℕ → ℕ) → ((t : ℕ) → t < w.h → x t ≡ m t) → FollowsJackson w m → FollowsJackson w x
follows_same w m x agrees follows t h =
    rw (agrees t h, states_agree w x m t (λ j l. agrees j (omega arith))) (follows t h)

module _ (w : Windows) where
  abbrev places : ℕ → ℕ
  places = place_at (day_start w)

  -- what the entries have left after t minutes of the algorithm, and who had the minute before
  left_is : (t : ℕ) → t ≤ w.h → (i : ℕ) → (later t (day_start w)).windows.p i ≡ w.p i - minutes_of t places i
  unfolding later sum
  left_is zero h i = omega arith
  left_is (suc t) h i = omega (arith, left_is t (omega arith) i, later_left (day_start w) t (omega arith) i)

  last_is : (t : ℕ) → t ≤ w.h → (later t (day_start w)).last ≡ had_before places t
  unfolding later
  last_is zero h = refl
  last_is (suc t) h = later_last (day_start w) t (omega arith)

  -- so its states are those after its own minutes
  later_is : (t : ℕ) → t ≤ w.h → later t (day_start w) ≡ state_after w places t
  later_is t h =
      let windows = later_keeps (day_start w) t ∙ ap (with_left w) (fun_ext (left_is t h)) in
      let time : (later t (day_start w)).t ≡ t = omega (arith, later_time (day_start w) t (omega arith)) in
      λ j.
      record {
        windows = windows j;
        t = time j;
        last = last_is t h j;
      }

  pub schedule_follows : w.n ≤ 255 → FollowsJackson w (places_in (schedule w))
  schedule_follows few =
      follows_same w places (places_in (schedule w)) (schedule_at w) (λ t h. rw (← later_is t (omega arith)) (schedule_takes w few t h))

-- the rule leaves one schedule: two that follow it agree in all minutes
module _ (w : Windows) (m x : ℕ → ℕ) (follows : FollowsJackson w m) (also : FollowsJackson w x) where
  agree_below : (t : ℕ) → t ≤ w.h → (j : ℕ) → j < t → m j ≡ x j
  agree_below zero h = λ j l. absurd (omega arith)
  agree_below (suc t) h =
      let before = agree_below t (omega arith) in
      below_suc t (λ j. m j ≡ x j) before
      (takes_one (state_after w m t) (m t) (x t) (follows t h) (rw (states_agree w m x t before) (also t h)))

  pub one_follows : (t : ℕ) → t < w.h → m t ≡ x t
  one_follows = agree_below w.h (omega arith)
