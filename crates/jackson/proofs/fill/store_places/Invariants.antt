-- The places are stored stretch by stretch. The loop's invariant is `Stored`, the measure what is left of h.
-- Assumes nothing.
use Prim.Native.Nat.{◌-◌}
use Rattle.jackson.specs.Minutes.{state_in}
use Rattle.jackson.proofs.FillCases.{Stored}
use Rattle.jackson.proofs.fill.store_places.Given as goal

abbrev pub invariant-loop-i : goal.invariant-loop-i
invariant-loop-i l = Stored (state_in l.initial.today) l.h l.initial.plan l.plan l.today l.i

abbrev pub decreases-loop-i : goal.decreases-loop-i
decreases-loop-i l = l.h - l.i
