-- The start goes to the minute when the work is done, where both tests of `jumped` hold.
-- Assumes nothing.
use native.Mathlib.Omega.{arith}
use Rattle.edges.proofs.Jumps.{jump_goes}
use Rattle.edges.proofs.starts.jump.Goals as goal

pub returns : goal.returns
returns c =
    rw c.from.ensures
    (jump_goes _ _ _ _ _ (omega (arith, c.if-done-s.false, c.from.ensures))
    (omega (arith, c.if-min-work.false, c.min.ensures, c.from-else-done-s.ensures, c.from-else-done-s-2.ensures, c.from-else-done-s-3.ensures)))
