-- The best number below a bound, and the lowest of equals: what the scan `best` answers.
-- Assumes nothing.
use mathlib.Core.Path.{◌≡◌, refl, sym, ◌∙◌}
use mathlib.Core.Bool.{Bool, true, false, cond, ◌&&◌, ◌||◌, true≢false, or-false}
use Prim.Native.Nat.{ℕ, zero, suc, ◌<◌, ◌≤◌}
use native.Mathlib.Omega.{arith}
use native.Mathlib.Decide.{ℕ_discrete}
use borrow.Author.Tests.{ltb-true, ltb-false, lt-ltb, le-ltb, eq-eqb, ne_eqb}
use lib.Dec.{eqb, ltb}
use Rattle.base.specs.Counting.{best, smaller, larger, lex_less, lex_smaller}
use Rattle.base.proofs.Sums.{le_or_lt, below_suc}

-- a test that does not pass
pub not_ltb : (a b : ℕ) → (ltb a b ≡ true → ⊥) → b ≤ a
not_ltb a b h = go (ltb a b) refl
  where
    go : (t : Bool) → ltb a b ≡ t → b ≤ a
    go true e = absurd (h e)
    go false e = ltb-false a b e

-- being strictly better is an order in which those that are not better than one another count as equal
pub record Ranks (before : ℕ → ℕ → Bool) : Type 0 where
  pub asym : (i k : ℕ) → before i k ≡ true → before k i ≡ true → ⊥
  pub over : (i j k : ℕ) → before i k ≡ true → (before j k ≡ true → ⊥) → before i j ≡ true

pub smaller_ranks : (f : ℕ → ℕ) → Ranks (smaller f)
smaller_ranks f =
    record {
      asym = λ i k a b. omega (arith, ltb-true (f i) (f k) a, ltb-true (f k) (f i) b);
      over = λ i j k a b. lt-ltb (f i) (f j) (omega (arith, ltb-true (f i) (f k) a, not_ltb (f j) (f k) b));
    }

pub larger_ranks : (f : ℕ → ℕ) → Ranks (larger f)
larger_ranks f =
    record {
      asym = λ i k a b. omega (arith, ltb-true (f k) (f i) a, ltb-true (f i) (f k) b);
      over = λ i j k a b. lt-ltb (f j) (f i) (omega (arith, ltb-true (f k) (f i) a, not_ltb (f k) (f j) b));
    }

-- the lexicographic order of equal first numbers, and of others
module _ (a b c d : ℕ) where
  pub lex_equal : a ≡ b → ltb c d ≡ lex_less a b c d
  lex_equal e = rw (eq-eqb a b e, le-ltb a b (omega arith)) refl

  pub lex_other : (a ≡ b → ⊥) → ltb a b ≡ lex_less a b c d
  lex_other e = rw (ne_eqb a b e) (sym (or-false _))

-- the first value is smaller, or they are equal and the second is smaller
module _ (f g : ℕ → ℕ) (i k : ℕ) where
  pub of_lex_smaller : lex_smaller f g i k ≡ true → (f i ≤ f k) × (f i ≡ f k → g i < g k)
  of_lex_smaller h = go (ℕ_discrete (f i) (f k))
    where
      go : Dec (f i ≡ f k) → (f i ≤ f k) × (f i ≡ f k → g i < g k)
      go (yes e) = (omega (arith, e), λ _. ltb-true (g i) (g k) (lex_equal (f i) (f k) (g i) (g k) e ∙ h))
      go (no e) = let l = ltb-true (f i) (f k) (lex_other (f i) (f k) (g i) (g k) e ∙ h) in (omega arith, λ q. absurd (e q))

  to_lex_smaller : f i ≤ f k → (f i ≡ f k → g i < g k) → lex_smaller f g i k ≡ true
  to_lex_smaller l less = go (ℕ_discrete (f i) (f k))
    where
      go : Dec (f i ≡ f k) → lex_smaller f g i k ≡ true
      go (yes e) = sym (lex_equal (f i) (f k) (g i) (g k) e) ∙ lt-ltb (g i) (g k) (less e)
      go (no e) = sym (lex_other (f i) (f k) (g i) (g k) e) ∙ lt-ltb (f i) (f k) (omega (arith, e))

  pub not_lex_smaller : (lex_smaller f g i k ≡ true → ⊥) → (f k ≤ f i) × (f i ≡ f k → g k ≤ g i)
  not_lex_smaller h = (
    le_or_lt (f k) (f i) (λ l. l) (λ l. absurd (h (to_lex_smaller (omega arith) (λ e. absurd (omega arith))))),
    λ e. le_or_lt (g k) (g i) (λ l. l) (λ l. absurd (h (to_lex_smaller (omega arith) (λ _. l)))),
  )

pub lex_smaller_ranks : (f g : ℕ → ℕ) → Ranks (lex_smaller f g)
lex_smaller_ranks f g =
    record {
      asym =
          λ i k a b.
          let x = of_lex_smaller f g i k a in
          let y = of_lex_smaller f g k i b in
          let e : f i ≡ f k = omega (arith, x.0, y.0) in
          omega (arith, x.1 e, y.1 (sym e));
      over =
          λ i j k a b.
          let x = of_lex_smaller f g i k a in
          let y = not_lex_smaller f g j k b in
          to_lex_smaller f g i j (omega (arith, x.0, y.0))
          (λ e. omega (arith, x.1 (omega (arith, x.0, y.0, e)), y.1 (omega (arith, x.0, y.0, e))));
    }

-- no number below n passes
abbrev pub NonePasses : ℕ → (ℕ → Bool) → Type 0
NonePasses n f = (i : ℕ) → i < n → f i ≡ true → ⊥

-- k is a number below n that passes, none that passes is better, and those below k are worse
pub record Best (n : ℕ) (f : ℕ → Bool) (before : ℕ → ℕ → Bool) (k : ℕ) : Type 0 where
  pub below : k < n
  pub passes : f k ≡ true
  pub unbeaten : (i : ℕ) → i < n → f i ≡ true → before i k ≡ true → ⊥
  pub lowest : (i : ℕ) → i < k → f i ≡ true → before k i ≡ true

-- what a scan over the numbers below n answers, if none stands for no number
pub data Scanned (none n : ℕ) (f : ℕ → Bool) (before : ℕ → ℕ → Bool) : ℕ → Type 0 where
  nothing : NonePasses n f → Scanned none n f before none
  found : {k : ℕ} → Best n f before k → Scanned none n f before k

module _ (none : ℕ) (f : ℕ → Bool) (before : ℕ → ℕ → Bool) (ranks : Ranks before) where
  -- n does not pass, or is no better than the best below it
  stays : (n k : ℕ) → (f n ≡ true → before n k ≡ true → ⊥) → Best n f before k → Best (suc n) f before k
  stays n k worse b =
      record {
        below = omega arith;
        passes = b.passes;
        unbeaten = below_suc n (λ i. f i ≡ true → before i k ≡ true → ⊥) b.unbeaten worse;
        lowest = b.lowest;
      }

  -- n passes, and is better than all below it that pass
  leads : (n : ℕ) → f n ≡ true → ((i : ℕ) → i < n → f i ≡ true → before n i ≡ true) → Best (suc n) f before n
  leads n p better =
      record {
        below = omega arith;
        passes = p;
        unbeaten =
            below_suc n (λ i. f i ≡ true → before i n ≡ true → ⊥)
            (λ i h q b. ranks.asym n i (better i h q) b)
            (λ _ b. ranks.asym n n b b);
        lowest = better;
      }

  -- one number more
  turn : (n k : ℕ) → suc n ≤ none → Scanned none n f before k → Scanned none (suc n) f before (cond (f n && (eqb k none || before n k)) n k)
  turn n k h (nothing empty) = go (f n) refl
    where
      go : (t : Bool) → f n ≡ t → Scanned none (suc n) f before (cond (t && (eqb none none || before n none)) n none)
      go true e = simp (eq-eqb none none refl) (found (leads n e (λ i l q. absurd (empty i l q))))
      go false e = nothing (below_suc n (λ i. f i ≡ true → ⊥) empty (λ q. true≢false (sym q ∙ e)))
  turn n k h (found b) = simp (ne_eqb k none (omega (arith, b.below))) (go (f n) (before n k) refl refl)
    where
      go : (t c : Bool) → f n ≡ t → before n k ≡ c → Scanned none (suc n) f before (cond (t && c) n k)
      go true true e q = found (leads n e (λ i l p. ranks.over n i k q (b.unbeaten i l p)))
      go true false e q = found (stays n k (λ _ p. true≢false (sym p ∙ q)) b)
      go false c e q = found (stays n k (λ p _. true≢false (sym p ∙ e)) b)

  -- what `best` answers
  pub best_scanned : (n : ℕ) → n ≤ none → Scanned none n f before (best none n f before)
  unfolding best
  best_scanned zero h = nothing (λ i l _. absurd (omega arith))
  best_scanned (suc n) h = turn n (best none n f before) h (best_scanned n (omega arith))

  module _ (n : ℕ) (enough : n ≤ none) where
    -- the two cases
    pub best_cases : (C : Type 0) → (best none n f before ≡ none → NonePasses n f → C) → (Best n f before (best none n f before) → C) → C
    best_cases C without within = go (best none n f before) refl (best_scanned n enough)
      where
        go : (k : ℕ) → best none n f before ≡ k → Scanned none n f before k → C
        go k e (nothing empty) = without e empty
        go k e (found b) = within (rw e b)

    -- an answer below n is the best
    pub best_below : best none n f before < n → Best n f before (best none n f before)
    best_below h = best_cases (Best n f before (best none n f before)) (λ e _. absurd (omega arith)) (λ b. b)

    -- where one number passes, the best is answered
    pub best_some : (i : ℕ) → i < n → f i ≡ true → Best n f before (best none n f before)
    best_some i h p = best_cases (Best n f before (best none n f before)) (λ _ empty. absurd (empty i h p)) (λ b. b)

module _ (n : ℕ) (f : ℕ → Bool) (value : ℕ → ℕ) (k : ℕ) where
  -- the best has the smallest value, or the largest
  pub best_smallest : Best n f (smaller value) k → (i : ℕ) → i < n → f i ≡ true → value k ≤ value i
  best_smallest b i h p = not_ltb (value i) (value k) (b.unbeaten i h p)

  pub best_largest : Best n f (larger value) k → (i : ℕ) → i < n → f i ≡ true → value i ≤ value k
  best_largest b i h p = not_ltb (value k) (value i) (b.unbeaten i h p)
