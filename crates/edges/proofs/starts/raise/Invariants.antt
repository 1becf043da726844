-- The loop's invariant is the walk so far.
-- Assumes nothing.
use Rattle.order.specs.Orders.{value_at}
use Rattle.windows.specs.Windows.{windows_in}
use Rattle.edges.proofs.StartCases.{Raising}
use Rattle.edges.proofs.starts.raise.Given as goal

abbrev pub invariant-loop-i : goal.invariant-loop-i
invariant-loop-i l = Raising (windows_in l.by_release.windows) (value_at l.by_release.order) l.b l.p l.start l.i-index l.sum
