-- Laws of sums, counts and the tests under them, over whatever functions and numbers.
-- Assumes nothing.
use mathlib.Core.Path.{◌≡◌, refl, sym, ap}
use mathlib.Core.Bool.{Bool, true, false, cond, ◌&&◌, true≢false}
use Prim.Native.Nat.{ℕ, zero, suc, ◌+◌, ◌*◌, ◌-◌, ◌≤◌, ◌<◌, min}
use native.Mathlib.Omega.{arith}
use borrow.Author.Tests.{leb-true, leb-false, le-leb, eqb-true, eqb-false, eq-eqb, ne_eqb}
use lib.Dec.{eqb, leb, ltb}
use Rattle.base.specs.Counting.{sum, same}

-- Numbers.

-- of two numbers, the one is at most the other, or above it
pub le_or_lt : {G : Type 0} (a b : ℕ) → (a ≤ b → G) → (b < a → G) → G
le_or_lt {G} a b f g = go (leb a b) refl
  where
    go : (t : Bool) → leb a b ≡ t → G
    go true e = f (leb-true a b e)
    go false e = g (leb-false a b e)

-- one number is the other, or not
pub eq_or_ne : {G : Type 0} (a b : ℕ) → (a ≡ b → G) → ((a ≡ b → ⊥) → G) → G
eq_or_ne {G} a b f g = go (eqb a b) refl
  where
    go : (t : Bool) → eqb a b ≡ t → G
    go true e = f (eqb-true a b e)
    go false e = g (eqb-false a b e)

-- what holds below n and of n holds below n + 1
pub below_suc : (n : ℕ) (P : ℕ → Type 0) → ((i : ℕ) → i < n → P i) → P n → (i : ℕ) → i < suc n → P i
below_suc n P below at i h = le_or_lt n i (λ e. let z : i ≡ n = omega arith in rw z at) (below i)

-- what holds of a, and of suc t where it holds of t, holds from a up to b
pub from_to : (P : ℕ → Type 0) (a b : ℕ) → P a → ((t : ℕ) → a ≤ t → t < b → P t → P (suc t)) → (t : ℕ) → a ≤ t → t ≤ b → P t
from_to P a b first next zero l r = let z : 0 ≡ a = omega arith in rw z first
from_to P a b first next (suc t) l r =
    le_or_lt a t
    (λ h. next t h r (from_to P a b first next t h (omega arith)))
    (λ h. let z : suc t ≡ a = omega arith in rw z first)

-- Tests.

-- whether two numbers are the same
pub same_cases : {G : Type 0} (a b : ℕ) → (a ≡ b → same a b ≡ 1 → G) → ((a ≡ b → ⊥) → same a b ≡ 0 → G) → G
same_cases {G} a b f g = go (eqb a b) refl
  where
    go : (t : Bool) → eqb a b ≡ t → G
    go true e = f (eqb-true a b e) (rw e)
    go false e = g (eqb-false a b e) (rw e)

pub same_refl : (a : ℕ) → same a a ≡ 1
same_refl a = rw (eq-eqb a a refl)

pub same_ne : (a b : ℕ) → (a ≡ b → ⊥) → same a b ≡ 0
same_ne a b h = rw (ne_eqb a b h)

-- whatever a test says, no more than a bound of both answers
pub cond_most : (t : Bool) (x y k : ℕ) → x ≤ k → y ≤ k → cond t x y ≤ k
cond_most true x y k h l = h
cond_most false x y k h l = l

-- what holds of both answers of a test
pub cond_cases : {A : Type 0} (G : A → Type 0) (t : Bool) (x y : A) → (t ≡ true → G x) → (t ≡ false → G y) → G (cond t x y)
cond_cases G true x y f g = f refl
cond_cases G false x y f g = g refl

-- two tests that are passed together
pub and_true : (s t : Bool) → (s && t) ≡ true → (s ≡ true) × (t ≡ true)
and_true true t e = (refl, e)
and_true false t e = absurd (true≢false (sym e))

-- a test that is not passed fails
pub not_passed : (t : Bool) → (t ≡ true → ⊥) → t ≡ false
not_passed true h = absurd (h refl)
not_passed false h = refl

-- x, counted only if a ≤ r and d ≤ b
pub between_is : (a b r d x : ℕ) → a ≤ r → d ≤ b → cond (leb a r && leb d b) x 0 ≡ x
between_is a b r d x h k = rw (le-leb a r h, le-leb d b k)

pub between_in : (a b r d x : ℕ) → 1 ≤ cond (leb a r && leb d b) x 0 → (a ≤ r) × (d ≤ b)
between_in a b r d x = go (leb a r) (leb d b) refl refl
  where
    go : (s t : Bool) → leb a r ≡ s → leb d b ≡ t → 1 ≤ cond (s && t) x 0 → (a ≤ r) × (d ≤ b)
    go true true e f some = (leb-true a r e, leb-true d b f)
    go true false e f some = absurd (omega arith)
    go false t e f some = absurd (omega arith)

-- so a bound on x in that case is a bound on it
pub between_le : (a b r d x y : ℕ) → (a ≤ r → d ≤ b → x ≤ y) → cond (leb a r && leb d b) x 0 ≤ y
between_le a b r d x y h =
    le_or_lt 1 (cond (leb a r && leb d b) x 0)
    (λ some. let z = between_in a b r d x some in omega (arith, between_is a b r d x z.0 z.1, h z.0 z.1))
    (λ none. omega arith)

-- Sums.

pub sum_le : (n : ℕ) (f g : ℕ → ℕ) → ((i : ℕ) → i < n → f i ≤ g i) → sum n f ≤ sum n g
unfolding sum
sum_le zero f g h = omega arith
sum_le (suc n) f g h = omega (arith, sum_le n f g (λ i k. h i (omega arith)), h n (omega arith))

-- n terms of at most k
pub sum_most : (n k : ℕ) (f : ℕ → ℕ) → ((i : ℕ) → i < n → f i ≤ k) → sum n f ≤ n * k
unfolding sum
sum_most zero k f h = omega arith
sum_most (suc n) k f h = omega (arith, sum_most n k f (λ i l. h i (omega arith)), h n (omega arith))

pub sum_cong : (n : ℕ) (f g : ℕ → ℕ) → ((i : ℕ) → i < n → f i ≡ g i) → sum n f ≡ sum n g
sum_cong n f g h = omega (arith, sum_le n f g (λ i k. omega (arith, h i k)), sum_le n g f (λ i k. omega (arith, h i k)))

pub sum_zero : (n : ℕ) (f : ℕ → ℕ) → ((i : ℕ) → i < n → f i ≡ 0) → sum n f ≡ 0
unfolding sum
sum_zero zero f h = refl
sum_zero (suc n) f h = omega (arith, sum_zero n f (λ i k. h i (omega arith)), h n (omega arith))

pub sum_add : (n : ℕ) (f g : ℕ → ℕ) → sum n (λ i. f i + g i) ≡ sum n f + sum n g
unfolding sum
sum_add zero f g = refl
sum_add (suc n) f g = omega (arith, sum_add n f g)

-- the exchange of two sums
pub sum_swap : (n k : ℕ) (f : ℕ → ℕ → ℕ) → sum n (λ i. sum k (f i)) ≡ sum k (λ j. sum n (λ i. f i j))
unfolding sum
sum_swap zero k f = sym (sum_zero k (λ _. 0) (λ _ _. refl))
sum_swap (suc n) k f = omega (arith, sum_swap n k f, sum_add k (λ j. sum n (λ i. f i j)) (f n))

-- one term is at most the sum
pub term_le : (n : ℕ) (f : ℕ → ℕ) (k : ℕ) → k < n → f k ≤ sum n f
unfolding sum
term_le zero f = λ k below. absurd (omega arith)
term_le (suc n) f = below_suc n (λ k. f k ≤ sum (suc n) f) (λ k below. omega (arith, term_le n f k below)) (omega arith)

-- a sum that is not 0 has a term that is not 0
pub some_term : (n : ℕ) (f : ℕ → ℕ) → 1 ≤ sum n f → (i : ℕ) × (i < n) × (1 ≤ f i)
unfolding sum
some_term zero f some = absurd (omega arith)
some_term (suc n) f some =
    le_or_lt 1 (f n)
    (λ h. (n, omega arith, h))
    (λ h. let z = some_term n f (omega arith) in (z.0, omega (arith, z.1), z.2))

-- the first terms are at most the sum
pub sum_more : (n x : ℕ) (f : ℕ → ℕ) → x ≤ n → sum x f ≤ sum n f
unfolding sum
sum_more zero x f l = let z : x ≡ 0 = omega arith in rw z (omega arith)
sum_more (suc n) x f l =
    le_or_lt x n (λ h. omega (arith, sum_more n x f h)) (λ h. let z : x ≡ suc n = omega arith in rw z (omega arith))

-- and all of it where the rest are 0
pub sum_rest : (n x : ℕ) (f : ℕ → ℕ) → x ≤ n → ((i : ℕ) → x ≤ i → i < n → f i ≡ 0) → sum x f ≡ sum n f
unfolding sum
sum_rest zero x f l rest = let z : x ≡ 0 = omega arith in rw z refl
sum_rest (suc n) x f l rest =
    le_or_lt x n
    (λ h. omega (arith, sum_rest n x f h (λ i a b. rest i a (omega arith)), rest n h (omega arith)))
    (λ h. let z : x ≡ suc n = omega arith in rw z refl)

-- a test that all terms share, outside the sum
pub sum_guard : (n : ℕ) (t : Bool) (f : ℕ → ℕ) → sum n (λ i. cond t (f i) 0) ≡ cond t (sum n f) 0
sum_guard n true f = refl
sum_guard n false f = sum_zero n (λ _. 0) (λ _ _. refl)

-- the first term apart
pub sum_first : (n : ℕ) (f : ℕ → ℕ) → sum (suc n) f ≡ f 0 + sum n (λ i. f (suc i))
unfolding sum
sum_first zero f = omega arith
sum_first (suc n) f = omega (arith, sum_first n f)

-- the first a terms apart
pub sum_after : (a b : ℕ) (f : ℕ → ℕ) → sum (a + b) f ≡ sum a f + sum b (λ j. f (a + j))
unfolding sum
sum_after a zero f = let z : a + 0 ≡ a = omega arith in rw z (omega arith)
sum_after a (suc b) f = let z : a + suc b ≡ suc (a + b) = omega arith in rw z (omega (arith, sum_after a b f))

-- the same terms in the other order
pub sum_reverse : (h : ℕ) (f : ℕ → ℕ) → sum h (λ t. f (h - suc t)) ≡ sum h f
unfolding sum
sum_reverse zero f = refl
sum_reverse (suc h) f =
    let turned : (t : ℕ) → t < h → f (suc h - suc t) ≡ f (suc (h - suc t)) = λ t l. ap f (omega arith) in
    let last : suc h - suc h ≡ 0 = omega arith in
    omega (arith, sum_cong h _ _ turned, sum_reverse h (λ t. f (suc t)), sum_first h f, ap f last)

-- Counts.

-- of all numbers at most one is k, and one is if k is below n
pub sum_same : (n k : ℕ) → k < n → sum n (same k) ≡ 1
unfolding sum
sum_same zero k below = absurd (omega arith)
sum_same (suc n) k below =
    same_cases k n
    (λ e s. omega (arith, sum_zero n (same k) (λ i l. same_ne k i (omega arith)), s))
    (λ ne s. omega (arith, sum_same n k (omega arith), s))

pub sum_same_le : (n k : ℕ) → sum n (same k) ≤ 1
sum_same_le n k =
    le_or_lt n k
    (λ e. omega (arith, sum_zero n (same k) (λ i l. same_ne k i (omega arith))))
    (λ e. omega (arith, sum_same n k e))

-- a sum falls if no term grows and one falls
pub sum_lt : (n : ℕ) (f g : ℕ → ℕ) → ((i : ℕ) → i < n → f i ≤ g i) → (k : ℕ) → k < n → f k < g k → sum n f < sum n g
sum_lt n f g h k below less =
    omega (arith, sum_le n (λ i. f i + same k i) g each, sum_add n f (same k), sum_same n k below)
  where
    each : (i : ℕ) → i < n → f i + same k i ≤ g i
    each i l = same_cases k i (λ e s. omega (arith, rw e at less)) (λ _ s. omega (arith, h i l))

-- from a up to b there are at most b - a numbers
counted_below : (h a b : ℕ) → sum h (λ t. cond (leb a t && ltb t b) 1 0) ≤ min h b - a
unfolding sum
counted_below zero a b = omega arith
counted_below (suc h) a b =
    let more : a ≤ h → suc h ≤ b → 1 ≤ (min (suc h) b - a) - (min h b - a) = omega arith in
    omega (arith, counted_below h a b, between_le a b h (suc h) 1 _ more)

pub count_between : (h a b : ℕ) → sum h (λ t. cond (leb a t && ltb t b) 1 0) ≤ b - a
count_between h a b = omega (arith, counted_below h a b)
