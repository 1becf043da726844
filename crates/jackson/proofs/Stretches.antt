-- A place that is chosen stays chosen up to the end of its stretch. Of the rule only the earliest deadline, the going on and the idling are
-- used, so this holds whatever it does with ties.
-- Assumes nothing.
use mathlib.Core.Path.{◌≡◌, refl, sym, ap, ◌∙◌, fun_ext}
use mathlib.Core.Bool.{Bool, true, false, cond}
use Prim.Native.Nat.{ℕ, zero, suc, ◌+◌, ◌-◌, ◌<◌, ◌≤◌, min}
use native.Mathlib.Omega.{arith}
use borrow.Author.Tests.{ltb-true, ltb-false, lt-ltb, le-ltb, eq-eqb}
use lib.Dec.{eqb, ltb}
use Rattle.base.specs.Counting.{same}
use Rattle.windows.specs.Windows.{Windows, with_left}
use Rattle.jackson.specs.Rules.{Ready}
use Rattle.jackson.specs.Minutes.{State, chosen, Takes, after, MinuteAnswer, minute_of, later, place_at}
use Rattle.jackson.specs.Stretches.{sooner, next_release, finish, stretch_end, stretch_of, after_stretch}
use Rattle.jackson.specs.Internal.{after_minutes}
use Rattle.base.proofs.Sums.{le_or_lt, below_suc}
use Rattle.jackson.proofs.Choices.{chosen_takes}
use Rattle.jackson.proofs.Schedules.{minute_on}

-- Minutes of one place.

-- m minutes of place k from t on, in which no r is reached, and before whose last k is not finished
record Steady (w : Windows) (t k m : ℕ) : Type 0 where
  in_day : t + m ≤ w.h
  no_arrival : (i : ℕ) → i < w.n → t < w.r i → t + m ≤ w.r i
  unfinished : k < w.n → m ≤ w.p k

-- one minute more
less_more : (x j k i : ℕ) → x - cond (eqb k i) j 0 - same k i ≡ x - cond (eqb k i) (suc j) 0
less_more x j k i = go (eqb k i)
  where
    go : (b : Bool) → x - cond b j 0 - cond b 1 0 ≡ x - cond b (suc j) 0
    go true = omega arith
    go false = omega arith

minutes_next : (s : State) (k j : ℕ) → after (after_minutes s k j) k ≡ after_minutes s k (suc j)
minutes_next s k j =
    let left = fun_ext (λ i. less_more (s.windows.p i) j k i) in
    let time : s.t + j + 1 ≡ s.t + suc j = omega arith in
    λ x. record { windows = with_left s.windows (left x); t = time x; last = k }

-- a minute whose choice is known
minute_of_lem : (s : State) → s.t < s.windows.h → (k : ℕ) → chosen s ≡ k → minute_of s ≡ record { place = k; next = after s k }
minute_of_lem s on k e = minute_on s on ∙ ap (λ (z : ℕ). record { place = z; next = after s z }) e

module _ (s : State) (few : s.windows.n ≤ 255) (k m : ℕ) (is : chosen s ≡ k) (steady : Steady s.windows s.t k m) where
  takes : Takes s k
  takes = rw is at (chosen_takes s few)

  module _ (j : ℕ) (below : j < m) where
    -- who is ready then is ready now
    ready_before : (i : ℕ) → Ready (after_minutes s k j).windows (s.t + j) i → Ready s.windows s.t i
    ready_before i h =
        record {
          place = h.place;
          released =
              le_or_lt (s.windows.r i) s.t (λ l. l)
              (λ l. absurd (omega (arith, steady.no_arrival i h.place l, h.released)));
          unfinished = omega (arith, h.unfinished);
        }

    -- and k is ready then
    ready_still : k < s.windows.n → Ready (after_minutes s k j).windows (s.t + j) k
    ready_still place =
        let all : cond (eqb k k) j 0 ≡ j = rw (eq-eqb k k refl) in
        record {
          place = place;
          released = omega (arith, (takes.deadline.taken place).released);
          unfinished = omega (arith, all, steady.unfinished place);
        }

    -- so it is chosen
    still_chosen : chosen (after_minutes s k j) ≡ k
    still_chosen =
        let then = chosen_takes (after_minutes s k j) few in
        le_or_lt s.windows.n k
        (λ none.
        le_or_lt s.windows.n (chosen (after_minutes s k j))
        (λ over. then.idles over ∙ sym (takes.idles none))
        (λ some. absurd (takes.deadline.none _ none (ready_before _ (then.deadline.taken some)))))
        (λ place.
        then.goes_on (ready_still place)
        (λ i h less. omega (arith, takes.deadline.least i place (ready_before i h), less)))

    still_minute : minute_of (after_minutes s k j) ≡ record { place = k; next = after (after_minutes s k j) k }
    still_minute = minute_of_lem (after_minutes s k j) (omega (arith, steady.in_day)) k still_chosen

  first_minute_lem : 1 ≤ m → minute_of s ≡ record { place = k; next = after s k }
  first_minute_lem some = minute_of_lem s (omega (arith, steady.in_day)) k is

  later_is : (j : ℕ) → suc j ≤ m → later (suc j) s ≡ after_minutes s k (suc j)
  unfolding later
  later_is zero h = ap (λ (z : MinuteAnswer). z.next) (first_minute_lem (omega arith))
  later_is (suc j) h =
      ap (λ (z : State). (minute_of z).next) (later_is j (omega arith))
      ∙ ap (λ (z : MinuteAnswer). z.next) (still_minute (suc j) h)
      ∙ minutes_next s k (suc j)

  -- k has all these minutes
  places_are : (j : ℕ) → j < m → place_at s j ≡ k
  unfolding later
  places_are zero h = ap (λ (z : MinuteAnswer). z.place) (first_minute_lem h)
  places_are (suc j) h =
      ap (λ (z : State). (minute_of z).place) (later_is j (omega arith)) ∙ ap (λ (z : MinuteAnswer). z.place) (still_minute (suc j) h)

  -- and after them the state is this
  state_is : 1 ≤ m → later m s ≡ after_minutes s k m
  state_is some = let e : suc (m - 1) ≡ m = omega arith in rw e at (later_is (m - 1) (omega arith))

-- The end of a stretch.

sooner_cases : (G : ℕ → Type 0) (t x b : ℕ) → (t < x → x ≤ b → G x) → ((t < x → b ≤ x) → G b) → G (sooner t x b)
sooner_cases G t x b f g = go (ltb t x) refl
  where
    go : (c : Bool) → ltb t x ≡ c → G (cond c (min x b) b)
    go true e =
        le_or_lt x b
        (λ l. let z : min x b ≡ x = omega arith in rw z (f (ltb-true t x e) l))
        (λ l. let z : min x b ≡ b = omega arith in rw z (g (λ _. omega arith)))
    go false e = g (λ h. absurd (omega (arith, ltb-false t x e)))

module _ (r : ℕ → ℕ) (t b : ℕ) where
  release_within : (n : ℕ) → next_release n r t b ≤ b
  unfolding next_release
  release_within zero = omega arith
  release_within (suc n) =
      let z = release_within n in
      sooner_cases (λ x. x ≤ b) t (r n) (next_release n r t b) (λ h l. omega arith) (λ _. z)

  -- it comes no later than any r after t
  release_first : (n i : ℕ) → i < n → t < r i → next_release n r t b ≤ r i
  unfolding next_release
  release_first zero = λ i l h. absurd (omega arith)
  release_first (suc n) =
      below_suc n (λ i. t < r i → next_release (suc n) r t b ≤ r i)
      (λ i l h.
      let z = release_first n i l h in
      sooner_cases (λ x. x ≤ r i) t (r n) (next_release n r t b) (λ _ k. omega arith) (λ _. z))
      (λ h. sooner_cases (λ x. x ≤ r n) t (r n) (next_release n r t b) (λ _ _. omega arith) (λ late. late h))

  -- and is one of them, or b
  release_cases : (G : ℕ → Type 0) (n : ℕ) → ((i : ℕ) → i < n → t < r i → G (r i)) → G b → G (next_release n r t b)
  unfolding next_release
  release_cases G zero f g = g
  release_cases G (suc n) f g =
      sooner_cases G t (r n) (next_release n r t b) (λ h _. f n (omega arith) h)
      (λ _. release_cases G n (λ i l. f i (omega arith)) g)

module _ (w : Windows) (t k : ℕ) where
  finish_cases : (G : ℕ → Type 0) → (k < w.n → t + w.p k ≤ w.h → G (t + w.p k)) → ((k < w.n → w.h ≤ t + w.p k) → G w.h)
      → G (finish w t k)
  finish_cases G f g =
      le_or_lt w.n k
      (λ none. rw (le-ltb k w.n none) (g (λ place. absurd (omega arith))))
      (λ place. rw (lt-ltb k w.n place)
      (le_or_lt (t + w.p k) w.h
      (λ l. let z : min (t + w.p k) w.h ≡ t + w.p k = omega arith in rw z (f place l))
      (λ l. let z : min (t + w.p k) w.h ≡ w.h = omega arith in rw z (g (λ _. omega arith)))))

  -- it is an arrival, the finish of k, or the day's end
  pub end_cases : (G : ℕ → Type 0) → ((i : ℕ) → i < w.n → t < w.r i → G (w.r i)) → (k < w.n → G (t + w.p k)) → G w.h
      → G (stretch_end w t k)
  unfolding stretch_end
  end_cases G f g h = release_cases w.r t (finish w t k) G w.n f (finish_cases G (λ place _. g place) (λ _. h))

  end_within : stretch_end w t k ≤ finish w t k
  unfolding stretch_end
  end_within = release_within w.r t (finish w t k) w.n

  end_first : (i : ℕ) → i < w.n → t < w.r i → stretch_end w t k ≤ w.r i
  unfolding stretch_end
  end_first = release_first w.r t (finish w t k) w.n

  module _ (on : t < w.h) (some : k < w.n → 1 ≤ w.p k) where
    end_after : t < stretch_end w t k
    end_after = end_cases (λ x. t < x) (λ i l h. h) (λ place. omega (arith, some place)) on

    end_steady : Steady w t k (stretch_end w t k - t)
    end_steady =
        let within = end_within in
        record {
          in_day = omega (arith, end_after, within, finish_cases (λ x. x ≤ w.h) (λ _ l. l) (λ _. omega arith));
          no_arrival = λ i l h. omega (arith, end_after, end_first i l h);
          unfinished =
              λ place.
              omega (arith, within, finish_cases (λ x. x ≤ t + w.p k) (λ _ _. omega arith) (λ late. late place));
        }

-- minutes after minutes
pub later_later : (s : State) (i m : ℕ) → later m (later i s) ≡ later (i + m) s
unfolding later
later_later s i zero = let e : i + 0 ≡ i = omega arith in rw e
later_later s i (suc m) =
    let e : i + suc m ≡ suc (i + m) = omega arith in
    rw e (ap (λ (z : State). (minute_of z).next) (later_later s i m))

-- The stretch that begins in a state.

-- one of a day past its end has no minutes
pub stretch_over : (s : State) → s.windows.h ≤ s.t → stretch_of s ≡ 0
unfolding stretch_of
stretch_over s h = rw (le-ltb _ _ h)

module _ (s : State) (few : s.windows.n ≤ 255) (on : s.t < s.windows.h) where
  stretch_on : stretch_of s ≡ stretch_end s.windows s.t (chosen s) - s.t
  unfolding stretch_of
  stretch_on = rw (lt-ltb _ _ on)

  pub chosen_some : chosen s < s.windows.n → 1 ≤ s.windows.p (chosen s)
  chosen_some place = ((chosen_takes s few).deadline.taken place).unfinished

  steady : Steady s.windows s.t (chosen s) (stretch_of s)
  steady = rw stretch_on (end_steady s.windows s.t (chosen s) on chosen_some)

  -- it has a minute
  pub stretch_some : 1 ≤ stretch_of s
  stretch_some = omega (arith, stretch_on, end_after s.windows s.t (chosen s) on chosen_some)

  -- it comes to its end, which the day has
  pub stretch_to : s.t + stretch_of s ≡ stretch_end s.windows s.t (chosen s)
  stretch_to = omega (arith, stretch_on, end_after s.windows s.t (chosen s) on chosen_some)

  pub stretch_in_day : s.t + stretch_of s ≤ s.windows.h
  stretch_in_day = steady.in_day

  -- the place chosen has each of its minutes
  pub stretch_places : (j : ℕ) → j < stretch_of s → place_at s j ≡ chosen s
  stretch_places = places_are s few (chosen s) (stretch_of s) refl steady

  pub stretch_state : after_stretch s ≡ after_minutes s (chosen s) (stretch_of s)
  stretch_state = state_is s few (chosen s) (stretch_of s) refl steady stretch_some
