-- Laws of numbers in base ten, of lines and of texts one after the other, as the code's proofs cite them.
-- Assumes nothing.
use mathlib.Core.Path.{◌≡◌, refl}
use mathlib.Core.List.{List, [], ◌∷◌, ◌++◌}
use Prim.Native.Nat.{ℕ, zero, suc, ◌+◌, ◌*◌, ◌/◌, ◌%◌, ◌^◌, ◌<◌, ◌≤◌}
use native.Mathlib.Omega.{arith}
use borrow.Author.Tests.{lt-ltb, le-ltb}
use lib.ListN.{length, length-append}
use Rattle.base.proofs.Sums.{le_or_lt}
use Rattle.report.specs.Text.{ascii, digits, decimal, line, texts}

-- Numbers.

-- any two bounds above x give the same digits
digits_same : (j k x : ℕ) → x < j → x < k → digits j x ≡ digits k x
unfolding digits
digits_same zero k x a b = absurd (omega arith)
digits_same (suc j) zero x a b = absurd (omega arith)
digits_same (suc j) (suc k) x a b =
    le_or_lt 10 x
    (λ more. rw (le-ltb x 10 more, digits_same j k (x / 10) (omega arith) (omega arith)))
    (λ less. rw (lt-ltb x 10 less))

-- so a bound that is large enough does not matter
digits_enough : (k x : ℕ) → x < k → digits k x ≡ decimal x
unfolding decimal
digits_enough k x h = digits_same k (suc x) x h (omega arith)

-- a number below ten is one digit
pub decimal_one : (x : ℕ) → x < 10 → decimal x ≡ (48 + x) ∷ []
unfolding decimal digits
decimal_one x h = rw (lt-ltb x 10 h)

-- any other is the digits of its tenth, then its last digit
pub decimal_more : (x : ℕ) → 10 ≤ x → decimal x ≡ decimal (x / 10) ++ ((48 + x % 10) ∷ [])
unfolding decimal digits
decimal_more x h = rw (le-ltb x 10 h, digits_enough x (x / 10) (omega arith))

-- a number below 10 ^ k has at most k digits
pub decimal_short : (k x : ℕ) → x < 10 ^ k → 1 ≤ k → length (decimal x) ≤ k
decimal_short zero x h some = absurd (omega arith)
decimal_short (suc zero) x h some = rw (decimal_one x h) (omega arith)
decimal_short (suc (suc k)) x h some =
    le_or_lt 10 x
    (λ more. rw (decimal_more x more) (simp length-append (omega (arith, decimal_short (suc k) (x / 10) (omega arith) (omega arith)))))
    (λ less. rw (decimal_one x less) (omega arith))

-- Lines: each field has one byte after it, a space or the newline.
pub line_last : (f : List ℕ) → length (line (f ∷ [])) ≡ length f + 1
unfolding line ascii
line_last f = length-append f _

pub line_more : (f g : List ℕ) (fs : List (List ℕ)) → length (line (f ∷ g ∷ fs)) ≡ length f + 1 + length (line (g ∷ fs))
unfolding line ascii
line_more f g fs = simp length-append (omega arith)

-- Texts.

-- the same texts one after the other are the same
pub texts_same : (n : ℕ) (f g : ℕ → List ℕ) → ((i : ℕ) → i < n → f i ≡ g i) → texts n f ≡ texts n g
unfolding texts
texts_same zero f g h = refl
texts_same (suc n) f g h = rw (texts_same n f g (λ i l. h i (omega arith)), h n (omega arith))

-- texts of at most k bytes each
pub texts_short : (n k : ℕ) (f : ℕ → List ℕ) → ((i : ℕ) → i < n → length (f i) ≤ k) → length (texts n f) ≤ n * k
unfolding texts
texts_short zero k f h = omega arith
texts_short (suc n) k f h =
    simp length-append (omega (arith, texts_short n k f (λ i l. h i (omega arith)), h n (omega arith)))
