-- The loop's invariant is `Placed`.
-- Assumes nothing.
use Prim.Native.Nat.{◌-◌}
use lib.ListN.{get_or}
use Rattle.list.proofs.ByPlace.{Placed}
use Rattle.bounds.proofs.ends.greatest_starts.Given as goal

abbrev pub invariant-loop-i : goal.invariant-loop-i
invariant-loop-i l = Placed (λ j. l.h - get_or l.ends j 0) l.count l.starts l.i
