-- At most 2n + 1 stretches lead to the day's end. One that ends before it ends at an arrival or a finish, so that fewer of those are left,
-- and each entry has at most one of either.
-- Assumes nothing.
use mathlib.Core.Path.{◌≡◌, refl, ap, ◌∙◌}
use mathlib.Core.Bool.{cond}
use Prim.Native.Nat.{ℕ, zero, suc, ◌+◌, ◌*◌, ◌<◌, ◌≤◌}
use native.Mathlib.Omega.{arith}
use borrow.Author.Tests.{lt-ltb, le-ltb, eq-eqb}
use lib.Dec.{eqb, ltb}
use Rattle.base.specs.Counting.{sum}
use Rattle.jackson.specs.Minutes.{State, chosen, later}
use Rattle.jackson.specs.Stretches.{stretch_of, after_stretch, after_stretches}
use Rattle.jackson.specs.Internal.{after_minutes}
use Rattle.base.proofs.Sums.{le_or_lt, cond_most, sum_le, sum_most, sum_lt}
use Rattle.jackson.proofs.Schedules.{later_h, later_n}
use Rattle.jackson.proofs.Stretches.{end_cases, chosen_some, stretch_over, stretch_to, stretch_state}

-- 1 if a is below b, else 0
abbrev below : ℕ → ℕ → ℕ
below a b = cond (ltb a b) 1 0

below_most : (a b : ℕ) → below a b ≤ 1
below_most a b = cond_most (ltb a b) 1 0 1 (omega arith) (omega arith)

-- it grows with neither a larger a nor a smaller b
below_le : (a b c d : ℕ) → c ≤ a → b ≤ d → below a b ≤ below c d
below_le a b c d h k =
    le_or_lt b a
    (λ l. rw (le-ltb a b l) (omega arith))
    (λ l. let z : c < d = omega arith in rw (lt-ltb a b l, lt-ltb c d z) (omega arith))

-- and is 0 if b is at most a
below_lt : (a b c d : ℕ) → b ≤ a → c < d → below a b < below c d
below_lt a b c d h k = rw (le-ltb a b h, lt-ltb c d k) (omega arith)

-- of n values of r those after t, and of n values of p those that are not 0
abbrev upcoming : ℕ → (ℕ → ℕ) → ℕ → ℕ
upcoming n r t = sum n (λ i. below t (r i))

abbrev unfinished : ℕ → (ℕ → ℕ) → ℕ
unfinished n p = sum n (λ i. below 0 (p i))

module _ (n : ℕ) where
  upcoming_le : (r : ℕ → ℕ) (t u : ℕ) → t ≤ u → upcoming n r u ≤ upcoming n r t
  upcoming_le r t u h = sum_le n _ _ (λ i l. below_le u (r i) t (r i) h (omega arith))

  upcoming_lt : (r : ℕ → ℕ) (t i : ℕ) → i < n → t < r i → upcoming n r (r i) < upcoming n r t
  upcoming_lt r t i l h =
      sum_lt n _ _ (λ j b. below_le (r i) (r j) t (r j) (omega arith) (omega arith)) i l (below_lt (r i) (r i) t (r i) (omega arith) h)

  module _ (p q : ℕ → ℕ) (fewer : (i : ℕ) → q i ≤ p i) where
    unfinished_le : unfinished n q ≤ unfinished n p
    unfinished_le = sum_le n _ _ (λ i l. below_le 0 (q i) 0 (p i) (omega arith) (fewer i))

    unfinished_lt : (k : ℕ) → k < n → 1 ≤ p k → q k ≡ 0 → unfinished n q < unfinished n p
    unfinished_lt k l some none =
        sum_lt n _ _ (λ i b. below_le 0 (q i) 0 (p i) (omega arith) (fewer i)) k l (below_lt 0 (q k) 0 (p k) (omega arith) some)

-- the arrivals and finishes that are left
abbrev pending : State → ℕ
pending s = upcoming s.windows.n s.windows.r s.t + unfinished s.windows.n s.windows.p

pending_most : (s : State) → pending s ≤ 2 * s.windows.n
pending_most s =
    omega (
      arith,
      sum_most s.windows.n 1 (λ i. below s.t (s.windows.r i)) (λ i _. below_most s.t (s.windows.r i)),
      sum_most s.windows.n 1 (λ i. below 0 (s.windows.p i)) (λ i _. below_most 0 (s.windows.p i)),
    )

module _ (s : State) (few : s.windows.n ≤ 255) (on : s.t < s.windows.h) where
  -- the place chosen and the minutes of its stretch
  abbrev k : ℕ
  k = chosen s

  abbrev m : ℕ
  m = stretch_of s

  fewer : (i : ℕ) → (after_minutes s k m).windows.p i ≤ s.windows.p i
  fewer i = omega arith

  at_arrival : (i : ℕ) → i < s.windows.n → s.t < s.windows.r i → s.t + m ≡ s.windows.r i → pending (after_minutes s k m) < pending s
  at_arrival i l h e =
      omega (
        arith,
        ap (upcoming s.windows.n s.windows.r) e,
        upcoming_lt s.windows.n s.windows.r s.t i l h,
        unfinished_le s.windows.n s.windows.p (after_minutes s k m).windows.p fewer,
      )

  at_finish : k < s.windows.n → s.t + m ≡ s.t + s.windows.p k → pending (after_minutes s k m) < pending s
  at_finish place e =
      let all : cond (eqb k k) m 0 ≡ m = rw (eq-eqb k k refl) in
      omega (
        arith,
        upcoming_le s.windows.n s.windows.r s.t (s.t + m) (omega arith),
        unfinished_lt s.windows.n s.windows.p (after_minutes s k m).windows.p fewer k place (chosen_some s few on place)
            (omega (arith, all, e)),
      )

  -- a stretch that ends before the day does leaves fewer
  pending_falls : (after_stretch s).t < s.windows.h → pending (after_stretch s) < pending s
  pending_falls =
      rw (stretch_state s few on)
      (end_cases s.windows s.t k (λ x. s.t + m ≡ x → s.t + m < s.windows.h → pending (after_minutes s k m) < pending s)
      (λ i l h e _. at_arrival i l h e) (λ place e _. at_finish place e) (λ e h. absurd (omega arith)) (stretch_to s few on))

-- a day past its end stays
pub stretch_stays : (s : State) → s.windows.h ≤ s.t → after_stretch s ≡ s
unfolding later
stretch_stays s h = rw (stretch_over s h)

module _ (s : State) (few : s.windows.n ≤ 255) where
  pub stretches_h : (j : ℕ) → (after_stretches j s).windows.h ≡ s.windows.h
  unfolding after_stretches
  stretches_h zero = refl
  stretches_h (suc j) = later_h (after_stretches j s) (stretch_of (after_stretches j s)) ∙ stretches_h j

  pub stretches_n : (j : ℕ) → (after_stretches j s).windows.n ≡ s.windows.n
  unfolding after_stretches
  stretches_n zero = refl
  stretches_n (suc j) = later_n (after_stretches j s) (stretch_of (after_stretches j s)) ∙ stretches_n j

  -- each stretch leaves one less, up to the day's end
  pending_after : (j : ℕ) → (after_stretches j s).t < s.windows.h → pending (after_stretches j s) + j ≤ pending s
  unfolding after_stretches
  pending_after zero h = omega arith
  pending_after (suc j) h =
      let z = after_stretches j s in
      le_or_lt z.windows.h z.t
      (λ over. absurd (omega (arith, ap (λ (x : State). x.t) (stretch_stays z over), stretches_h j)))
      (λ on.
      let n = stretches_n j in
      omega (
        arith,
        pending_falls z (omega arith) on (omega (arith, stretches_h j)),
        pending_after j (omega (arith, stretches_h j)),
      ))

pub stretches_few : (s : State) → s.windows.n ≤ 255 → s.windows.h ≤ (after_stretches (2 * s.windows.n + 1) s).t
stretches_few s few =
    le_or_lt s.windows.h (after_stretches (2 * s.windows.n + 1) s).t (λ h. h)
    (λ h. absurd (omega (arith, pending_after s few (2 * s.windows.n + 1) h, pending_most s)))
