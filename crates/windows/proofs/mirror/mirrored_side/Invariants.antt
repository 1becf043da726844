-- A side is mirrored entry by entry. The loop's invariant is that its first i are.
-- Assumes nothing.
use Rattle.windows.specs.Internal.{MirroredSide}
use Rattle.windows.proofs.mirror.mirrored_side.Given as goal

abbrev pub invariant-loop-i : goal.invariant-loop-i
invariant-loop-i l = MirroredSide l.h l.i l.initial.x-items l.other l.x-items
