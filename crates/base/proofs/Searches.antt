-- The first and the last number below a bound that pass a test; the last is the first of the other way round.
-- Assumes nothing.
use mathlib.Core.Path.{◌≡◌, refl, sym, ap, ◌∙◌}
use mathlib.Core.Bool.{Bool, true, false, cond, false≢true}
use Prim.Native.Nat.{ℕ, zero, suc, ◌+◌, ◌-◌, ◌<◌, ◌≤◌}
use native.Mathlib.Omega.{arith}
use Rattle.base.specs.Counting.{first_below, last_below}
use Rattle.base.proofs.Sums.{le_or_lt}

-- t passes and is below n, or is n; nothing below it passes
pub record First (n : ℕ) (f : ℕ → Bool) (t : ℕ) : Type 0 where
  pub within : t ≤ n
  pub passes : t < n → f t ≡ true
  pub none_before : (i : ℕ) → i < t → f i ≡ true → ⊥

-- what a search for the first answers
pub first_below_lem : (n : ℕ) (f : ℕ → Bool) → First n f (first_below n f)
unfolding first_below
first_below_lem zero f = record { within = omega arith; passes = λ h. absurd (omega arith); none_before = λ i h _. omega arith }
first_below_lem (suc n) f = go (f 0) _ refl (first_below_lem n (λ i. f (suc i)))
  where
    go : (b : Bool) (t : ℕ) → f 0 ≡ b → First n (λ i. f (suc i)) t → First (suc n) f (cond b 0 (suc t))
    go true t e rest = record { within = omega arith; passes = λ _. e; none_before = λ i h _. omega arith }
    go false t e rest =
        record {
          within = omega arith;
          passes = λ h. rest.passes (omega arith);
          none_before = elim [ zero ↦ λ h p. false≢true (sym e ∙ p) | suc i ↦ λ h p. rest.none_before i (omega arith) p ];
        }

-- it is the only such one
pub one_first : (n : ℕ) (f : ℕ → Bool) (s t : ℕ) → First n f s → First n f t → s ≡ t
one_first n f s t a b =
    le_or_lt s t
    (λ l. le_or_lt t s (λ m. omega arith) (λ m. absurd (b.none_before s m (a.passes (omega (arith, b.within))))))
    (λ l. absurd (a.none_before t l (b.passes (omega (arith, a.within)))))

-- A walk for the first: nothing below i passes.
pub record Passed (n : ℕ) (f : ℕ → Bool) (i : ℕ) : Type 0 where
  pub within : i ≤ n
  pub none_before : (j : ℕ) → j < i → f j ≡ true → ⊥

module _ (n : ℕ) (f : ℕ → Bool) where
  pub passed_none : Passed n f 0
  passed_none = record { within = omega arith; none_before = λ j h _. omega arith }

  module _ (i : ℕ) (so : Passed n f i) where
    pub passed_next : i < n → f i ≡ false → Passed n f (i + 1)
    passed_next h e =
        record {
          within = omega arith;
          none_before = λ j l p. le_or_lt i j
              (λ a.
              let z : j ≡ i = omega (arith, l) in
              false≢true (sym e ∙ (rw z at p)))
              (λ a. so.none_before j a p);
        }

    passed_first : (i < n → f i ≡ true) → first_below n f ≡ i
    passed_first p =
        one_first n f (first_below n f) i (first_below_lem n f) (record { within = so.within; passes = p; none_before = so.none_before })

    pub passed_found : f i ≡ true → first_below n f ≡ i
    passed_found e = passed_first (λ _. e)

    pub passed_all : n ≤ i → first_below n f ≡ n
    passed_all h = let z : i ≡ n = omega (arith, so.within) in passed_first (λ l. absurd (omega arith)) ∙ z

-- a search looks at the tests below n alone
pub first_cong : (n : ℕ) (f g : ℕ → Bool) → ((i : ℕ) → i < n → f i ≡ g i) → first_below n f ≡ first_below n g
unfolding first_below
first_cong zero f g h = refl
first_cong (suc n) f g h = rw (h 0 (omega arith), first_cong n _ _ (λ i l. h (suc i) (omega arith)))

last_cong : (n : ℕ) (f g : ℕ → Bool) → ((i : ℕ) → i < n → f i ≡ g i) → last_below n f ≡ last_below n g
unfolding last_below
last_cong zero f g h = refl
last_cong (suc n) f g h = rw (h n (omega arith), last_cong n f g (λ i l. h i (omega arith)))

-- the same numbers the other way round: a search for the last is one for the first
last_first : (h : ℕ) (f : ℕ → Bool) → last_below h (λ t. f (h - suc t)) ≡ h - first_below h f
unfolding first_below last_below
last_first zero f = refl
last_first (suc h) f =
    let step : (t : ℕ) → t < h → f (suc h - suc t) ≡ f (suc (h - suc t)) = λ t l. ap f (omega arith) in
    let end : suc h - suc h ≡ 0 = omega arith in
    rw end (go (f 0) _ _ (last_cong h _ _ step ∙ last_first h (λ t. f (suc t))))
  where
    go : (b : Bool) (x y : ℕ) → x ≡ h - y → ◌≡◌ {A = ℕ} (cond b (suc h) x) (suc h - cond b 0 (suc y))
    go true x y e = omega arith
    go false x y e = omega arith

-- a number the other way round, taken twice
pub reverse_twice : (h t : ℕ) → t < h → h - suc (h - suc t) ≡ t
reverse_twice h t l = omega arith

module _ (h : ℕ) (f : ℕ → Bool) where
  last_reverse : last_below h f ≡ h - first_below h (λ t. f (h - suc t))
  last_reverse = last_cong h _ _ (λ t l. ap f (sym (reverse_twice h t l))) ∙ last_first h (λ t. f (h - suc t))

  pub first_last : first_below h (λ t. f (h - suc t)) ≡ h - last_below h f
  first_last = omega (arith, last_reverse, (first_below_lem h (λ t. f (h - suc t))).within)

  -- what a search for the last answers is at most the bound
  pub last_within : last_below h f ≤ h
  last_within = omega (arith, last_reverse)
