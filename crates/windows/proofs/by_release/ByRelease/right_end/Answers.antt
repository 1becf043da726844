-- The right ends are met one after the other. The loop's invariant is what those so far show.
-- Assumes nothing.
use mathlib.Core.Path.{refl}
use Rattle.windows.proofs.IntervalCases.{right_start}
use Rattle.windows.proofs.by_release.ByRelease.right_end.Goals as goal

pub loop-i-init : goal.loop-i-init
loop-i-init c = right_start _ _ refl refl
