-- The arrays hold the list's windows. The loop's invariant is that those of the first i entries are copied.
-- Assumes nothing.
use mathlib.Core.Path.{◌≡◌}
use Rattle.windows.proofs.WindowSetCases.{Copied}
use Rattle.windows.proofs.window_set.unchecked_windows.Given as goal

abbrev pub invariant-loop-i : goal.invariant-loop-i
invariant-loop-i l =
    (l.windows.h ≡ l.fn.list.frame.h) × (l.windows.n ≡ l.fn.list.n) × Copied l.e-items l.windows l.i
