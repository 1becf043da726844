-- The loop's invariant is the ends that the right ends met so far ask.
-- Assumes nothing.
use Rattle.order.specs.Orders.{value_at}
use Rattle.windows.specs.Windows.{windows_in}
use Rattle.edges.specs.Internal.{EndsBy}
use Rattle.edges.proofs.ends.ends_by_position.Given as goal

abbrev pub invariant-loop-b : goal.invariant-loop-b
invariant-loop-b l = EndsBy (windows_in l.by_release.windows) (value_at l.by_release.order) l.b-index l.ends
