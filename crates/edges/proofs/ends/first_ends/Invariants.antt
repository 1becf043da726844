-- The loop's invariant is r + p of the first x positions.
-- Assumes nothing.
use Rattle.order.specs.Orders.{value_at}
use Rattle.windows.specs.Windows.{windows_in}
use Rattle.edges.specs.Internal.{FirstEnds}
use Rattle.edges.proofs.ends.first_ends.Given as goal

abbrev pub invariant-loop-x : goal.invariant-loop-x
invariant-loop-x l = FirstEnds (windows_in l.by_release.windows) (value_at l.by_release.order) l.x l.ends
