-- Numbers by place, and an array in which they are stored one after the other.
-- Assumes nothing.
use mathlib.Core.Path.{◌≡◌, refl, sym, ap, ◌∙◌}
use mathlib.Core.Bool.{cond}
use mathlib.Core.List.{List, ◌++◌}
use Prim.Native.Nat.{ℕ, ◌+◌, ◌<◌, ◌≤◌}
use native.Mathlib.Omega.{arith}
use borrow.Author.Tests.{lt-ltb, le-ltb}
use lib.Dec.{ltb}
use lib.ListN.{length, get_or, set, replicate, length-set, length-replicate, get_or-replicate, get_or-append}
use lib.Seq.{get_or-set_same, get_or-set_other, get_or-append-add}
use Rattle.base.proofs.Sums.{le_or_lt, same_cases}
use Rattle.base.proofs.Listed.{list_same, list_is, list_length, list_at}
use Rattle.list.specs.DayLists.{by_place}

-- the number at a place
module _ (f : ℕ → ℕ) where
  pub by_place_at : (n i : ℕ) → i < 64 → get_or (by_place n f) i 0 ≡ cond (ltb i n) (f i) 0
  by_place_at n i h = list_at 64 (λ j. cond (ltb j n) (f j) 0) 0 i h

  pub by_place_lem : (n i : ℕ) → n ≤ 64 → i < n → get_or (by_place n f) i 0 ≡ f i
  by_place_lem n i few h = by_place_at n i (omega arith) ∙ rw (lt-ltb i n h)

-- only the places below n count
pub by_place_same : (n : ℕ) (f g : ℕ → ℕ) → ((i : ℕ) → i < n → f i ≡ g i) → by_place n f ≡ by_place n g
by_place_same n f g e = list_same 64 _ _ (λ t _. le_or_lt n t (λ a. rw (le-ltb t n a)) (λ a. rw (lt-ltb t n a) (e t a)))

-- numbers by place: the first i are stored
module _ (f : ℕ → ℕ) where
  placed_nowhere : replicate 64 0 ≡ by_place 0 f
  placed_nowhere =
      sym
      (list_is 64 _ 0 (replicate 64 0) (length-replicate {A = ℕ} 64 0)
      (λ t h. let z = le-ltb t 0 (omega arith) in rw z (sym (get_or-replicate 64 t 0 0 h))))

  placed_one : (xs : List ℕ) (i x : ℕ) → xs ≡ by_place i f → i < 64 → x ≡ f i → set xs i x ≡ by_place (i + 1) f
  placed_one xs i x so h e = sym (list_is 64 _ 0 (set xs i x) (length-set xs i x ∙ long) (λ t below. sym (at t below)))
    where
      long : length xs ≡ 64
      long = rw so (list_length 64 _)

      at : (t : ℕ) → t < 64 → get_or (set xs i x) t 0 ≡ cond (ltb t (i + 1)) (f t) 0
      at t below =
          same_cases t i
          (λ z _. rw (lt-ltb t (i + 1) (omega arith)) (rw z (get_or-set_same xs i x 0 (omega (arith, long)) ∙ e)))
          (λ z _.
          get_or-set_other xs i t x 0 z
          ∙ ap (λ (ys : List ℕ). get_or ys t 0) so
          ∙ by_place_at f i t below
          ∙ le_or_lt i t
          (λ a. rw (le-ltb t i a, le-ltb t (i + 1) (omega (arith, z))))
          (λ a. rw (lt-ltb t i a, lt-ltb t (i + 1) (omega arith))))

-- the numbers of the first i of n places are stored
pub record Placed (f : ℕ → ℕ) (n : ℕ) (xs : List ℕ) (i : ℕ) : Type 0 where
  pub few : n ≤ 64
  pub passed : i ≤ n
  pub is : xs ≡ by_place i f

module _ (f : ℕ → ℕ) (n : ℕ) where
  pub placed_none : (xs : List ℕ) → n ≤ 64 → xs ≡ replicate 64 0 → Placed f n xs 0
  placed_none xs few e = record { few = few; passed = omega arith; is = e ∙ placed_nowhere f }

  pub placed_next : (xs : List ℕ) (i x : ℕ) → Placed f n xs i → i < n → x ≡ f i → Placed f n (set xs i x) (i + 1)
  placed_next xs i x so h e =
      record { few = so.few; passed = omega (arith, h); is = placed_one f xs i x so.is (omega (arith, so.few)) e }

  pub placed_all : (xs : List ℕ) (i : ℕ) → Placed f n xs i → n ≤ i → xs ≡ by_place n f
  placed_all xs i so h = let z : i ≡ n = omega (arith, so.passed) in rw (← z) so.is

-- numbers by place, and others behind them
by_place_length : (n : ℕ) (f : ℕ → ℕ) → length (by_place n f) ≡ 64
by_place_length n f = list_length 64 _

pub by_place_first : (n : ℕ) (f g : ℕ → ℕ) (i : ℕ) → i < 64 → i < n → get_or (by_place n f ++ by_place n g) i 0 ≡ f i
by_place_first n f g i h l =
    get_or-append (by_place n f) (by_place n g) 0 i (omega (arith, by_place_length n f)) ∙ by_place_at f n i h ∙ rw (lt-ltb _ _ l) refl

pub by_place_second : (n : ℕ) (f g : ℕ → ℕ) (i : ℕ) → i < 64 → i < n → get_or (by_place n f ++ by_place n g) (64 + i) 0 ≡ g i
by_place_second n f g i h l =
    (rw (by_place_length n f) at (get_or-append-add (by_place n f) (by_place n g) i 0)) ∙ by_place_at g n i h ∙ rw (lt-ltb _ _ l) refl
