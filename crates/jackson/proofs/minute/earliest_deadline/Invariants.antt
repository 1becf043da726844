-- The scan finds the definition's place. The loop's invariant is the best so far.
-- Assumes nothing.
use Rattle.windows.specs.Plans.{idle}
use Rattle.windows.proofs.ScanCases.{Searched}
use Rattle.jackson.specs.Minutes.{is_ready, comes_before}
use Rattle.jackson.specs.Internal.{state_at}
use Rattle.jackson.proofs.minute.earliest_deadline.Given as goal

abbrev pub invariant-loop-i : goal.invariant-loop-i
invariant-loop-i l =
    let s = state_at l.windows l.t in Searched idle (is_ready s) (comes_before s) s.windows.n l.k l.i
