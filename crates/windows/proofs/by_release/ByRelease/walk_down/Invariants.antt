-- All places with the next r are passed. The loop's invariant is what was added since, over places whose r is at least this one.
-- Assumes nothing.
use Rattle.order.specs.Orders.{value_at}
use Rattle.windows.specs.Windows.{windows_in}
use Rattle.windows.proofs.RunningSums.{Walking}
use Rattle.windows.proofs.by_release.ByRelease.walk_down.Given as goal

abbrev pub invariant-loop-i : goal.invariant-loop-i
invariant-loop-i l = Walking (windows_in l.self.windows) (value_at l.self.order) l.b l.initial.sum l.sum l.i-items l.i-index
