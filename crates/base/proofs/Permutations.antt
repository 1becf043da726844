-- Numbers listed each once: what is added up over them, and two of them exchanged.
-- Assumes nothing.
use mathlib.Core.Path.{◌≡◌, refl, sym, ap, ◌∙◌}
use mathlib.Core.Bool.{Bool, true, false, cond}
use Prim.Native.Nat.{ℕ, zero, suc, ◌+◌, ◌<◌, ◌≤◌}
use native.Mathlib.Omega.{arith}
use borrow.Author.Tests.{eq-eqb, ne_eqb}
use lib.Dec.{eqb}
use Rattle.base.specs.Counting.{sum, same, EachOnce}
use Rattle.base.proofs.Sums.{le_or_lt, same_cases, same_ne, sum_le, sum_cong, sum_zero, sum_add, sum_swap, sum_lt}
use Rattle.base.proofs.Sums.{some_term, sum_same, sum_same_le}

-- if one term is marked, that one alone is added up
sum_marked : (n c : ℕ) (t : ℕ → Bool) → sum n (λ x. cond (t x) 1 0) ≡ 1 → sum n (λ x. cond (t x) c 0) ≡ c
sum_marked n zero t one = sum_zero n (λ x. cond (t x) 0 0) (λ x _. none (t x))
  where
    none : (b : Bool) → ◌≡◌ {A = ℕ} (cond b 0 0) 0
    none true = refl
    none false = refl
sum_marked n (suc c) t one =
    omega (
      arith,
      one,
      sum_marked n c t one,
      sum_add n (λ x. cond (t x) c 0) (λ x. cond (t x) 1 0),
      sum_cong n (λ x. cond (t x) (suc c) 0) (λ x. cond (t x) c 0 + cond (t x) 1 0) (λ x _. apart (t x)),
    )
  where
    apart : (b : Bool) → cond b (suc c) 0 ≡ cond b c 0 + cond b 1 0
    apart true = omega arith
    apart false = refl

-- the value of f at k, as a sum
sum_picked : (n k : ℕ) (f : ℕ → ℕ) → k < n → sum n (λ i. cond (eqb k i) (f i) 0) ≡ f k
sum_picked n k f below =
    sum_cong n _ _ (λ i _. same_cases k i (λ e _. rw e refl) (λ e _. rw (ne_eqb k i e) refl))
    ∙ sum_marked n (f k) (eqb k) (sum_same n k below)

module _ (n : ℕ) (o : ℕ → ℕ) (once : EachOnce n o) where
  -- only numbers below n are listed
  pub once_in : (x : ℕ) → x < n → o x < n
  once_in x below =
      le_or_lt n (o x)
      (λ h.
      let none : sum n (same (o x)) ≡ 0 = sum_zero n (same (o x)) (λ i l. same_ne (o x) i (omega arith)) in
      absurd (omega (
        arith,
        sum_swap n n (λ y i. same (o y) i),
        sum_cong n (λ i. sum n (λ y. same (o y) i)) (λ _. 1) once,
        sum_lt n (λ y. sum n (same (o y))) (λ _. 1) (λ y _. sum_same_le n (o y)) x below (omega (arith, none)),
      )))
      (λ h. h)

  -- and each of them
  pub once_has : (i : ℕ) → i < n → (x : ℕ) × (x < n) × (o x ≡ i)
  once_has i below =
      let z = some_term n (λ x. same (o x) i) (omega (arith, once i below)) in
      (z.0, z.1, same_cases (o z.0) i (λ e _. e) (λ _ s. absurd (omega (arith, s, z.2))))

  -- at one position only
  pub once_one : (x y : ℕ) → x < n → y < n → o x ≡ o y → x ≡ y
  once_one x y lx ly e =
      same_cases x y (λ q _. q)
      (λ ne _.
      absurd (omega (
        arith,
        sum_le n (λ z. same x z + same y z) (λ z. same (o z) (o x)) (λ z _. each ne z),
        sum_add n (same x) (same y),
        sum_same n x lx,
        sum_same n y ly,
        once (o x) (once_in x lx),
      )))
    where
      there : (z : ℕ) → o z ≡ o x → same (o z) (o x) ≡ 1
      there z q = rw (eq-eqb (o z) (o x) q)

      each : (x ≡ y → ⊥) → (z : ℕ) → same x z + same y z ≤ same (o z) (o x)
      each ne z =
          same_cases x z
          (λ q s. omega (arith, s, same_ne y z (λ u. ne (q ∙ sym u)), there z (ap o (sym q))))
          (λ _ s. same_cases y z
          (λ q t. omega (arith, s, t, there z (ap o (sym q) ∙ sym e)))
          (λ _ t. omega (arith, s, t)))

  -- so whatever is added up over them, each is counted once
  pub once_sum : (f : ℕ → ℕ) → sum n (λ x. f (o x)) ≡ sum n f
  once_sum f =
      sum_cong n _ _ (λ x below. sym (sum_picked n (o x) f (once_in x below)))
      ∙ (sum_swap n n (λ x i. cond (eqb (o x) i) (f i) 0)
      ∙ sum_cong n _ _ (λ i below. sum_marked n (f i) (λ x. eqb (o x) i) (once i below)))

-- two functions that differ at k alone
pub sum_apart : (n k : ℕ) (f g : ℕ → ℕ) → k < n → ((i : ℕ) → i < n → (i ≡ k → ⊥) → f i ≡ g i) → sum n f + g k ≡ sum n g + f k
unfolding sum
sum_apart zero k f g below alike = absurd (omega arith)
sum_apart (suc n) k f g below alike =
    same_cases k n
    (λ e _. rw e (omega (arith, sum_cong n f g (λ i l. alike i (omega arith) (λ z. omega (arith, z))))))
    (λ ne _.
    omega (arith, sum_apart n k f g (omega (arith, ne)) (λ i l. alike i (omega arith)), alike n (omega arith) (λ z. ne (sym z))))

-- two functions that have their values at u and x the other way round
pub sum_exchanged : (n u x : ℕ) (f g : ℕ → ℕ) → u < n → x < n → (u ≡ x → ⊥) → f u ≡ g x → f x ≡ g u
    → ((i : ℕ) → (i ≡ u → ⊥) → (i ≡ x → ⊥) → f i ≡ g i) → sum n f ≡ sum n g
sum_exchanged n u x f g lu lx ne a b alike =
    let h : ℕ → ℕ = λ i. cond (eqb i u) (f u) (g i) in
    let hu : h u ≡ f u = rw (eq-eqb u u refl) refl in
    let hx : h x ≡ g x = rw (ne_eqb x u (λ z. ne (sym z))) refl in
    let first = sum_apart n u h g lu (λ i _ z. rw (ne_eqb i u z) refl) in
    let second =
    sum_apart n x f h lx
    (λ i _ z. same_cases i u (λ e _. rw (e, eq-eqb u u refl) refl) (λ y _. rw (ne_eqb i u y) (alike i y z))) in
    omega (arith, first, second, hu, hx, a, b)
