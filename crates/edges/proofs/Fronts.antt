-- The first n numbers of an array, such as the places of an order, as a slice holds them.
-- Assumes nothing.
use mathlib.Core.Path.{◌≡◌}
use mathlib.Core.List.{List}
use Prim.Native.Nat.{ℕ, ◌<◌}
use native.Mathlib.Omega.{arith}
use lib.ListN.{length, get_or, take, length-take}
use lib.Seq.{get_or-take}
use Rattle.order.specs.Orders.{value_at}

module _ (n : ℕ) (xs : List ℕ) (x : ℕ) (inside : x < length (take n xs)) where
  pub front_below : x < n
  front_below = let below = simp length-take at inside in omega arith

  pub front_at : get_or (take n xs) x 0 ≡ value_at xs x
  front_at = get_or-take n xs x 0 front_below
