-- The places of an entry's fields are small.
-- Assumes nothing.
use Prim.Native.Nat.{ℕ, ◌≤◌}
use mathlib.Core.Bool.{Bool, true, false, cond}
use native.Mathlib.Omega.{arith}
use Rattle.format.specs.Maps.{r_place, d_place, p_place}
use Rattle.format.specs.declared.map.Fields.{Fields}

pub at_most : (b : Bool) (x : ℕ) → cond b x 0 ≤ x
at_most true x = omega arith
at_most false x = omega arith

pub r_place_small : (m : Fields) → r_place m ≤ 9
r_place_small m = omega (arith, at_most m.seal 4)

pub d_place_small : (m : Fields) → d_place m ≤ 11
d_place_small m = omega (arith, r_place_small m, at_most m.r 2)

pub p_place_small : (m : Fields) → p_place m ≤ 13
p_place_small m = omega (arith, d_place_small m, at_most m.d 2)
