-- The right ends are met one after the other. The loop's invariant is what those so far show.
-- Assumes nothing.
use Rattle.windows.specs.Windows.{windows_in}
use Rattle.windows.specs.Internal.{FindsRight}
use Rattle.windows.proofs.by_release.ByRelease.right_end.Given as goal

abbrev pub invariant-loop-i : goal.invariant-loop-i
invariant-loop-i l = FindsRight (windows_in l.self.windows) l.i l.shown
