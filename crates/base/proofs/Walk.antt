-- Mapped lists by place; and a walk over the first n elements of a list: the element at i and those after it, until none is left.
-- Assumes nothing.
use mathlib.Core.Path.{◌≡◌, refl, sym, ◌∙◌, ap}
use mathlib.Core.List.{List, [], ◌∷◌, map}
use Prim.Native.Nat.{ℕ, zero, suc, ◌+◌, ◌≤◌, ◌<◌}
use native.Mathlib.Numerals.{add-one}
use native.Mathlib.Omega.{arith}
use lib.ListN.{length, get_or, take, drop, drop_of_length-le, length-take, length-map}
use lib.Seq.{drop-cons, get_or-take}

-- the length of an array, from that of the values in its relation
pub length_mapped : (X Y : Type 0) (f : X → Y) (l : List X) (n : ℕ) → length (map f l) ≡ n → length l ≡ n
length_mapped X Y f l n e = sym (length-map l f) ∙ e

-- the value at a place of a mapped list
pub mapped_at : {X Y : Type 0} (f : X → Y) (l : List X) (x : X) (y : Y) (i : ℕ) → i < length l → get_or (map f l) i y ≡ f (get_or l i x)
mapped_at f [] x y i h = absurd (omega arith)
mapped_at f (e ∷ l) x y zero h = refl
mapped_at f (e ∷ l) x y (suc i) h = mapped_at f l x y i (omega arith)

module _ {A : Type 0} (l : List A) (n : ℕ) (enough : n ≤ length l) where
  pub walk_next : (i : ℕ) (d : A) → i < n → drop i (take n l) ≡ get_or l i d ∷ drop (i + 1) (take n l)
  walk_next i d h =
      let fits : i < length (take n l) = simp length-take (omega arith) in
      rw add-one (drop-cons (take n l) i d fits ∙ ap (λ (e : A). e ∷ drop (suc i) (take n l)) (get_or-take n l i d h))

  pub walk_done : (i : ℕ) → n ≤ i → drop i (take n l) ≡ []
  walk_done i h =
      let short : length (take n l) ≤ i = simp length-take (omega arith) in
      drop_of_length-le (take n l) short
