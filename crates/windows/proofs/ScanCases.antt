-- One step of a scan: which of place i and the best so far is the better, in each case that the code meets.
-- Assumes nothing.
use mathlib.Core.Path.{◌≡◌, refl, ◌∙◌, ap}
use mathlib.Core.Bool.{Bool, true, false}
use Prim.Native.Nat.{ℕ, ◌+◌, ◌<◌, ◌≤◌}
use native.Mathlib.Numerals.{add-one}
use native.Mathlib.Omega.{arith}
use borrow.Author.Tests.{eq-eqb, ne_eqb}
use Rattle.base.specs.Counting.{better, best}
use Rattle.base.proofs.Scans.{Ranks, best_cases}

module _ (none : ℕ) (f : ℕ → Bool) (before : ℕ → ℕ → Bool) (i k : ℕ) where
  -- i fails the test
  pub unfit : f i ≡ false → k ≡ better none f before i k
  unfit e = rw e refl

  -- i passes, and there is no best so far
  pub first : f i ≡ true → k ≡ none → i ≡ better none f before i k
  first e z = rw (e, eq-eqb k none z) refl

  -- i passes and is strictly better
  pub wins : f i ≡ true → (k ≡ none → ⊥) → before i k ≡ true → i ≡ better none f before i k
  wins e z h = rw (e, ne_eqb k none z, h) refl

  -- i is not strictly better, whether it passes or not
  pub stays : (k ≡ none → ⊥) → before i k ≡ false → k ≡ better none f before i k
  stays z h = go (f i) refl
    where
      go : (t : Bool) → f i ≡ t → k ≡ better none f before i k
      go true e = rw (e, ne_eqb k none z, h) refl
      go false e = rw e refl

-- a scan over n places has come to i, with k the best so far
pub record Searched (none : ℕ) (f : ℕ → Bool) (before : ℕ → ℕ → Bool) (n k i : ℕ) : Type 0 where
  pub held : n ≤ 64
  pub passed : i ≤ n
  pub is : k ≡ best none i f before

module _ {none : ℕ} {f : ℕ → Bool} {before : ℕ → ℕ → Bool} {n : ℕ} where
  pub search_start : n ≤ 64 → Searched none f before n none 0
  unfolding best
  search_start h = record { held = h; passed = omega arith; is = refl }

  pub search_next : {i k : ℕ} (k' : ℕ) → Searched none f before n k i → i < n → k' ≡ better none f before i k
      → Searched none f before n k' (i + 1)
  unfolding best
  search_next {i} {k} k' so h e =
      record { held = so.held; passed = omega (arith, h); is = rw add-one (e ∙ ap (better none f before i) so.is) }

  pub search_done : {i k : ℕ} → Searched none f before n k i → n ≤ i → k ≡ best none n f before
  search_done {i} {k} so h =
      let z : i ≡ n = omega (arith, so.passed) in
      rw (← z) so.is

  -- what a scan finds is one of its places
  pub search_found : {i k : ℕ} → Ranks before → n ≤ none → Searched none f before n k i → (k ≡ none → ⊥) → k < n
  search_found {i} {k} ranks h so z =
      best_cases none f before ranks i (omega (arith, so.passed)) (k < n) (λ e _. absurd (z (so.is ∙ e)))
      (λ found. omega (arith, so.is, so.passed, found.below))
