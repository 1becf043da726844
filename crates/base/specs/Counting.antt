-- Sums, searches, scans and lists over the numbers below a bound.
use Rattle.std.specs.Prelude.{ℕ, zero, suc, ◌+◌, ◌<◌, ◌≡◌, Bool, cond, ◌&&◌, ◌||◌, List, [], ◌∷◌, ◌++◌, eqb, ltb}

-- f 0 + .. + f (n - 1)
unfoldable pub sum : ℕ → (ℕ → ℕ) → ℕ
sum zero f = 0
sum (suc n) f = sum n f + f n

-- 1 if the two are the same, else 0
abbrev pub same : ℕ → ℕ → ℕ
same a b = cond (eqb a b) 1 0

-- the first n values of o have each number below n exactly once
abbrev pub EachOnce : ℕ → (ℕ → ℕ) → Type 0
EachOnce n o = (i : ℕ) → i < n → sum n (λ x. same (o x) i) ≡ 1

-- the first n values of o are sorted by R: each stands in that relation to all behind it
abbrev pub Sorted : (ℕ → ℕ → Type 0) → ℕ → (ℕ → ℕ) → Type 0
Sorted R n o = (x y : ℕ) → x < y → y < n → R (o x) (o y)

-- the first number below n that passes the test, or n if none does
unfoldable pub first_below : ℕ → (ℕ → Bool) → ℕ
first_below zero f = 0
first_below (suc n) f = cond (f 0) 0 (suc (first_below n (λ i. f (suc i))))

-- the last number below n that passes the test, plus 1, or 0 if none does
unfoldable pub last_below : ℕ → (ℕ → Bool) → ℕ
last_below zero f = 0
last_below (suc n) f = cond (f n) (suc n) (last_below n f)

-- the better of i and the best so far, k: i if it passes the test and k is none or i is strictly better (`before i k`), else k
abbrev pub better : ℕ → (ℕ → Bool) → (ℕ → ℕ → Bool) → ℕ → ℕ → ℕ
better none f before i k = cond (f i && (eqb k none || before i k)) i k

-- the best of the numbers below n that pass the test, the lowest of equals, or none, a number that is n or more
unfoldable pub best : ℕ → ℕ → (ℕ → Bool) → (ℕ → ℕ → Bool) → ℕ
best none zero f before = none
best none (suc n) f before = better none f before n (best none n f before)

-- smaller and larger values of f are better
abbrev pub smaller : (ℕ → ℕ) → ℕ → ℕ → Bool
smaller f i k = ltb (f i) (f k)

abbrev pub larger : (ℕ → ℕ) → ℕ → ℕ → Bool
larger f i k = ltb (f k) (f i)

-- a is below b, or they are equal and c is below d: (a, c) comes before (b, d) in the lexicographic order
abbrev pub lex_less : ℕ → ℕ → ℕ → ℕ → Bool
lex_less a b c d = ltb a b || (eqb a b && ltb c d)

-- smaller values of f are better, and of equal ones smaller values of g
abbrev pub lex_smaller : (ℕ → ℕ) → (ℕ → ℕ) → ℕ → ℕ → Bool
lex_smaller f g i k = lex_less (f i) (f k) (g i) (g k)

-- the list f 0, .., f (n - 1)
unfoldable pub list_of : ℕ → (ℕ → ℕ) → List ℕ
list_of zero f = []
list_of (suc n) f = list_of n f ++ (f n ∷ [])

-- the lists f 0, .., f (n - 1), one after the other
unfoldable pub concat_of : ℕ → (ℕ → List ℕ) → List ℕ
concat_of zero f = []
concat_of (suc n) f = concat_of n f ++ f n
