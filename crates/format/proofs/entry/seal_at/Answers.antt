-- `entry::seal_at` meets its contract.
-- Assumes nothing.
use native.Mathlib.Omega.{arith}
use Rattle.format.proofs.EntryCases.{seal_follows}
use Rattle.format.proofs.entry.seal_at.Goals as goal

-- `entry::seal_at` meets its contract.
pub u32_at-requires : goal.u32_at-requires
u32_at-requires c = omega (arith, simp c.if-follows.true at c.requires)

pub returns-then-follows : goal.returns-then-follows
returns-then-follows c = seal_follows c.if-follows.true c.u32_at.ensures
