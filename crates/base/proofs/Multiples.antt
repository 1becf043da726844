-- Multiples of c: their order, also with a rest below c; and sums and lists up to a multiple, c at a time.
-- Assumes nothing.
use mathlib.Core.Path.{◌≡◌, refl, sym, ap, ◌∙◌}
use mathlib.Core.List.{List, ◌++◌}
use Prim.Native.Nat.{ℕ, zero, suc, ◌+◌, ◌*◌, ◌/◌, ◌%◌, ◌≤◌, ◌<◌}
use native.Mathlib.Nat.{mul-zero, mul-suc, mul-le-mul_left, mul-add-div, mul-add-mod_self_left, div-eq_of_lt, mod-eq_of_lt, mod-lt}
use native.Mathlib.Nat.{div-add-mod, add-zero}
use native.Mathlib.Omega.{arith}
use borrow.Author.Tests.{lt-ltb, le-ltb, le-leb, lt-leb, eq-eqb, ne_eqb}
use lib.Dec.{eqb, leb, ltb}
use Rattle.base.specs.Counting.{sum, list_of, concat_of}
use Rattle.base.proofs.Sums.{le_or_lt, eq_or_ne, sum_after}
use Rattle.base.proofs.Listed.{list_same, list_append}

module _ (c : ℕ) where
  pub multiple_le : (x y j : ℕ) → x ≤ y → c * x ≤ c * y + j
  multiple_le x y j h = omega (arith, mul-le-mul_left {m = x} {n = y} c h)

  pub multiple_lt : (x y j : ℕ) → j < c → y < x → c * y + j < c * x
  multiple_lt x y j l h = omega (arith, mul-le-mul_left {m = suc y} {n = x} c h, mul-suc c y)

  pub of_multiple_le : (x y j : ℕ) → j < c → c * x ≤ c * y + j → x ≤ y
  of_multiple_le x y j l h = le_or_lt x y (λ z. z) (λ z. absurd (omega (arith, multiple_lt x y j l z)))

  pub of_multiple_lt : (x y j : ℕ) → c * y + j < c * x → y < x
  of_multiple_lt x y j h = le_or_lt x y (λ z. absurd (omega (arith, multiple_le x y j z))) (λ z. z)

  pub multiple_leb : (x y j : ℕ) → j < c → leb (c * x) (c * y + j) ≡ leb x y
  multiple_leb x y j l =
      le_or_lt x y
      (λ h. le-leb _ _ (multiple_le x y j h) ∙ sym (le-leb _ _ h))
      (λ h. lt-leb _ _ (multiple_lt x y j l h) ∙ sym (lt-leb _ _ h))

module _ (c : ℕ) (some : 1 ≤ c) where
  pub mul_lt : (x y : ℕ) → x < y → c * x < c * y
  mul_lt x y h = omega (arith, multiple_lt c y x 0 some h)

  pub of_mul_lt : (x y : ℕ) → c * x < c * y → x < y
  of_mul_lt x y h = of_multiple_lt c y x 0 (omega (arith, h))

  pub of_mul_le : (x y : ℕ) → c * x ≤ c * y → x ≤ y
  of_mul_le x y h = of_multiple_le c x y 0 some (omega (arith, h))

  pub mul_cancel : (x y : ℕ) → c * x ≡ c * y → x ≡ y
  mul_cancel x y e = omega (arith, of_mul_le x y (omega (arith, e)), of_mul_le y x (omega (arith, e)))

  pub mul_leb : (x y : ℕ) → leb (c * x) (c * y) ≡ leb x y
  mul_leb x y = ap (leb (c * x)) (sym (add-zero (c * y))) ∙ multiple_leb c x y 0 some

  pub mul_ltb : (x y : ℕ) → ltb (c * x) (c * y) ≡ ltb x y
  mul_ltb x y =
      le_or_lt y x
      (λ h. le-ltb _ _ (mul-le-mul_left {m = y} {n = x} c h) ∙ sym (le-ltb _ _ h))
      (λ h. lt-ltb _ _ (mul_lt x y h) ∙ sym (lt-ltb _ _ h))

  pub mul_eqb : (x y : ℕ) → eqb (c * x) (c * y) ≡ eqb x y
  mul_eqb x y =
      eq_or_ne x y
      (λ e. eq-eqb _ _ (ap (λ (z : ℕ). c * z) e) ∙ sym (eq-eqb _ _ e))
      (λ e. ne_eqb _ _ (λ z. e (mul_cancel x y z)) ∙ sym (ne_eqb _ _ e))

  -- a number as a multiple and a rest
  pub quotient_is : (t j : ℕ) → j < c → (c * t + j) / c ≡ t
  quotient_is t j l = mul-add-div {m = c} some t j ∙ omega (arith, div-eq_of_lt {n = j} {m = c} l)

  pub rest_is : (t j : ℕ) → j < c → (c * t + j) % c ≡ j
  rest_is t j l = mul-add-mod_self_left c t j ∙ mod-eq_of_lt {n = j} {m = c} l

  pub quotient_rest : (s : ℕ) → c * (s / c) + s % c ≡ s
  quotient_rest s = div-add-mod s c

  pub rest_below : (s : ℕ) → s % c < c
  rest_below s = mod-lt s {m = c} some

  pub quotient_below : (h s : ℕ) → s < c * h → s / c < h
  quotient_below h s l =
      le_or_lt h (s / c)
      (λ over. absurd (omega (arith, quotient_rest s, mul-le-mul_left {m = h} {n = s / c} c over)))
      (λ under. under)

-- Sums and lists, c at a time.

pub sum_multiple : (c h : ℕ) (f : ℕ → ℕ) → sum (c * h) f ≡ sum h (λ t. sum c (λ j. f (c * t + j)))
unfolding sum
sum_multiple c zero f = rw (mul-zero c) refl
sum_multiple c (suc h) f = rw (mul-suc c h) (omega (arith, sum_after (c * h) c f, sum_multiple c h f))

pub list_multiple : (c h : ℕ) (f : ℕ → ℕ) → list_of (c * h) f ≡ concat_of h (λ t. list_of c (λ j. f (c * t + j)))
unfolding list_of concat_of
list_multiple c zero f = rw (mul-zero c) refl
list_multiple c (suc h) f =
    rw (mul-suc c h)
    (sym (list_append (c * h) c f) ∙ ap (λ (z : List ℕ). z ++ list_of c (λ j. f (c * h + j))) (list_multiple c h f))

-- of the same values
pub concat_same : (c h : ℕ) (f g : ℕ → ℕ → ℕ) → ((t j : ℕ) → t < h → j < c → f t j ≡ g t j)
    → concat_of h (λ t. list_of c (f t)) ≡ concat_of h (λ t. list_of c (g t))
unfolding concat_of
concat_same c zero f g e = refl
concat_same c (suc h) f g e =
    λ x. concat_same c h f g (λ t j l. e t j (omega arith)) x ++ list_same c (f h) (g h) (λ j. e h j (omega arith)) x
