-- The loop's invariant is `Marked`.
-- Assumes nothing.
use Prim.Native.Nat.{min}
use Rattle.list.proofs.PlaceCases.{Marked}
use Rattle.list.proofs.places.whole_places.Given as goal

abbrev pub invariant-loop-i : goal.invariant-loop-i
invariant-loop-i l = Marked l.list.entries (min l.list.n 64) l.marks l.i
