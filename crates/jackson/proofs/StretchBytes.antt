-- The stretches of a day, one after the other, are its schedule.
-- Assumes nothing.
use mathlib.Core.Path.{◌≡◌, refl, sym, ap, ◌∙◌}
use mathlib.Core.List.{List, ◌++◌}
use Prim.Native.Nat.{ℕ, zero, suc, ◌+◌, ◌*◌, ◌<◌, ◌≤◌}
use native.Mathlib.Omega.{arith}
use Rattle.base.specs.Counting.{sum, list_of}
use Rattle.base.proofs.Sums.{le_or_lt}
use Rattle.base.proofs.Listed.{list_same, list_append}
use Rattle.windows.specs.Windows.{Windows}
use Rattle.jackson.specs.Minutes.{State, day_start, minute_of, later, place_at, schedule}
use Rattle.jackson.specs.Stretches.{stretch_of, after_stretch, after_stretches, stretch_bytes, StretchLaw}
use Rattle.jackson.proofs.Stretches.{later_later, stretch_over, stretch_in_day, stretch_places, stretch_state}
use Rattle.jackson.proofs.StretchCounts.{stretch_stays, stretches_h, stretches_n, stretches_few}

module _ (s : State) (few : s.windows.n ≤ 255) where
  -- where the stretch of a state ends
  one_end : s.t ≤ s.windows.h → ((after_stretch s).t ≡ s.t + stretch_of s) × ((after_stretch s).t ≤ s.windows.h)
  one_end within =
      le_or_lt s.windows.h s.t
      (λ over.
      let same = ap (λ (z : State). z.t) (stretch_stays s over) in
      (omega (arith, same, stretch_over s over), omega (arith, same, within)))
      (λ on.
      let t = ap (λ (z : State). z.t) (stretch_state s few on) in
      (t, omega (arith, t, stretch_in_day s few on)))

  -- the place of its first minute has all of them
  one_place : (i : ℕ) → i < stretch_of s → place_at s i ≡ (minute_of s).place
  unfolding later
  one_place i below =
      le_or_lt s.windows.h s.t
      (λ over. absurd (omega (arith, below, stretch_over s over)))
      (λ on. stretch_places s few on i below ∙ sym (stretch_places s few on 0 (omega (arith, below))))

module _ (s : State) (few : s.windows.n ≤ 255) (within : s.t ≤ s.windows.h) where
  -- the minutes of the first j stretches
  abbrev minutes : ℕ → ℕ
  minutes j = sum j (λ i. stretch_of (after_stretches i s))

  few_at : (j : ℕ) → (after_stretches j s).windows.n ≤ 255
  few_at j = omega (arith, few, stretches_n s few j)

  ends : (j : ℕ) → ((after_stretches j s).t ≡ s.t + minutes j) × ((after_stretches j s).t ≤ s.windows.h)
  unfolding after_stretches sum
  ends zero = (omega arith, within)
  ends (suc j) =
      let before = ends j in
      let h = stretches_h s few j in
      let z = one_end (after_stretches j s) (few_at j) (omega (arith, before.1, h)) in
      (omega (arith, z.0, before.0), omega (arith, z.1, h))

  state_at_lem : (j : ℕ) → after_stretches j s ≡ later (minutes j) s
  unfolding after_stretches sum later
  state_at_lem zero = refl
  state_at_lem (suc j) =
      ap (later (stretch_of (after_stretches j s))) (state_at_lem j) ∙ later_later s (minutes j) (stretch_of (after_stretches j s))

  bytes_at : (j : ℕ) → stretch_bytes j s ≡ list_of (minutes j) (place_at s)
  unfolding stretch_bytes sum list_of
  bytes_at zero = refl
  bytes_at (suc j) =
      let z = after_stretches j s in
      ap (λ (xs : List ℕ). xs ++ list_of (stretch_of z) (λ _. (minute_of z).place)) (bytes_at j)
      ∙ (ap (λ (xs : List ℕ). list_of (minutes j) (place_at s) ++ xs) (list_same (stretch_of z) _ _ each)
      ∙ list_append (minutes j) (stretch_of z) (place_at s))
    where
      each : (i : ℕ) → i < stretch_of (after_stretches j s) → (minute_of (after_stretches j s)).place ≡ place_at s (minutes j + i)
      each i below =
          sym (one_place (after_stretches j s) (few_at j) i below)
          ∙ (ap (λ (y : State). place_at y i) (state_at_lem j) ∙ ap (λ (y : State). (minute_of y).place) (later_later s (minutes j) i))

day_bytes_lem : (w : Windows) → w.n ≤ 255 → stretch_bytes (2 * w.n + 1) (day_start w) ≡ schedule w
unfolding schedule
day_bytes_lem w few =
    let j = 2 * w.n + 1 in
    let start = day_start w in
    let end = ends start few (omega arith) j in
    let all : minutes start few (omega arith) j ≡ w.h = omega (arith, end.0, end.1, stretches_few start few) in
    bytes_at start few (omega arith) j ∙ ap (λ (m : ℕ). list_of m (place_at start)) all

pub stretch_law : StretchLaw
stretch_law = record { few = stretches_few; bytes = day_bytes_lem }
