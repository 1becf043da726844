-- Laws of the list of a function's first values.
-- Assumes nothing.
use mathlib.Core.Path.{◌≡◌, refl, sym, ap, ◌∙◌}
use mathlib.Core.List.{List, [], ◌∷◌, ◌++◌, append_assoc, append-nil}
use Prim.Native.Nat.{ℕ, zero, suc, ◌+◌, ◌<◌}
use native.Mathlib.Omega.{arith}
use lib.ListN.{length, get_or, length-append, get_or-append}
use lib.Seq.{get_or-append_seam, ext_get_or}
use Rattle.base.specs.Counting.{list_of}
use Rattle.base.proofs.Sums.{below_suc}

-- it has n values
pub list_length : (n : ℕ) (f : ℕ → ℕ) → length (list_of n f) ≡ n
unfolding list_of
list_length zero f = refl
list_length (suc n) f = simp length-append (omega (arith, list_length n f))

-- f t is the one at place t
pub list_at : (n : ℕ) (f : ℕ → ℕ) (z t : ℕ) → t < n → get_or (list_of n f) t z ≡ f t
unfolding list_of
list_at zero f z = λ t h. absurd (omega arith)
list_at (suc n) f z =
    below_suc n (λ t. get_or (list_of (suc n) f) t z ≡ f t)
    (λ t h. get_or-append (list_of n f) _ z t (omega (arith, list_length n f)) ∙ list_at n f z t h)
    (rw (list_length n f) at (get_or-append_seam (list_of n f) (f n) [] z))

-- so every list of n values, f t at place t, is that list
pub list_is : (n : ℕ) (f : ℕ → ℕ) (z : ℕ) (xs : List ℕ) → length xs ≡ n → ((t : ℕ) → t < n → f t ≡ get_or xs t z) → list_of n f ≡ xs
list_is n f z xs long each =
    ext_get_or z (list_of n f) xs (list_length n f ∙ sym long)
    (λ t h. let below : t < n = omega (arith, list_length n f) in list_at n f z t below ∙ each t below)

-- and lists of the same values are the same
pub list_same : (n : ℕ) (f g : ℕ → ℕ) → ((t : ℕ) → t < n → f t ≡ g t) → list_of n f ≡ list_of n g
list_same n f g e = list_is n f 0 (list_of n g) (list_length n g) (λ t h. e t h ∙ sym (list_at n g 0 t h))

-- the first values, and those after them
pub list_append : (a b : ℕ) (f : ℕ → ℕ) → list_of a f ++ list_of b (λ i. f (a + i)) ≡ list_of (a + b) f
unfolding list_of
list_append a zero f = let z : a + 0 ≡ a = omega arith in rw z (append-nil (list_of a f))
list_append a (suc b) f =
    let z : a + suc b ≡ suc (a + b) = omega arith in
    rw z
    (sym (append_assoc (list_of a f) (list_of b (λ i. f (a + i))) (f (a + b) ∷ []))
    ∙ ap (λ (xs : List ℕ). xs ++ (f (a + b) ∷ [])) (list_append a b f))
