-- `form::put_seal` meets its contract.
-- Assumes nothing.
use native.Mathlib.Omega.{arith}
use Rattle.base.proofs.Stores.{wrote_nothing}
use Rattle.format.proofs.form.put_seal.Goals as goal

pub put_u32-requires : goal.put_u32-requires
put_u32-requires c = omega (arith, rw c.in-Some.is at c.requires)

pub returns-in-None : goal.returns-in-None
returns-in-None c = rw c.in-None.is (wrote_nothing _ _)

pub returns-in-Some : goal.returns-in-Some
returns-in-Some c = rw c.in-Some.is c.put_u32.ensures
