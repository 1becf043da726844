-- The largest of numbers.
-- Assumes nothing.
use mathlib.Core.Path.{◌≡◌, refl}
use Prim.Native.Nat.{ℕ, zero, suc, ◌<◌, ◌≤◌, max}
use native.Mathlib.Omega.{arith}
use Rattle.base.proofs.Sums.{le_or_lt, below_suc}
use Rattle.edges.specs.Ends.{largest}

module _ (x : ℕ) where
  -- no smaller than the first
  pub largest_first : (n : ℕ) (f : ℕ → ℕ) → x ≤ largest x n f
  unfolding largest
  largest_first zero f = omega arith
  largest_first (suc n) f = omega (arith, largest_first n f)

  -- nor than each of the others
  pub largest_over : (n : ℕ) (f : ℕ → ℕ) (i : ℕ) → i < n → f i ≤ largest x n f
  unfolding largest
  largest_over zero f = λ i below. absurd (omega arith)
  largest_over (suc n) f =
      below_suc n (λ i. f i ≤ largest x (suc n) f) (λ i below. omega (arith, largest_over n f i below)) (omega arith)

  -- and one of them
  pub largest_cases : (P : ℕ → Type 0) (n : ℕ) (f : ℕ → ℕ) → P x → ((i : ℕ) → i < n → P (f i)) → P (largest x n f)
  unfolding largest
  largest_cases P zero f first each = first
  largest_cases P (suc n) f first each =
      let before = largest_cases P n f first (λ i below. each i (omega arith)) in
      le_or_lt (largest x n f) (f n)
      (λ h. let z : max (largest x n f) (f n) ≡ f n = omega arith in rw z (each n (omega arith)))
      (λ h. let z : max (largest x n f) (f n) ≡ largest x n f = omega arith in rw z before)

  -- so at most what bounds all of them
  pub largest_under : (n : ℕ) (f : ℕ → ℕ) (y : ℕ) → x ≤ y → ((i : ℕ) → i < n → f i ≤ y) → largest x n f ≤ y
  largest_under n f y = largest_cases (λ z. z ≤ y) n f

  pub largest_same : (n : ℕ) (f g : ℕ → ℕ) → ((i : ℕ) → i < n → f i ≡ g i) → largest x n f ≡ largest x n g
  unfolding largest
  largest_same zero f g each = refl
  largest_same (suc n) f g each = omega (arith, largest_same n f g (λ i below. each i (omega arith)), each n (omega arith))
