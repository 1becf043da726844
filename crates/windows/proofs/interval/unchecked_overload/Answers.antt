-- The interval shown is the definition's.
-- Assumes nothing.
use Rattle.windows.proofs.IntervalCases.{overload_shown}
use Rattle.windows.proofs.interval.unchecked_overload.Goals as goal

pub returns-in-Some : goal.returns-in-Some
returns-in-Some c = rw c.in-Some.is (rw (c.in-Some.is, c.of.ensures.windows_are) at (overload_shown _ _ c.right_end-shown.ensures))

pub returns : goal.returns
returns c = rw (c.in_default.is, c.of.ensures.windows_are) at (overload_shown _ _ c.right_end-shown.ensures)
