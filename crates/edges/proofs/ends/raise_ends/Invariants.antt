-- The loop's invariant is `Raising`.
-- Assumes nothing.
use Rattle.order.specs.Orders.{value_at}
use Rattle.windows.specs.Windows.{windows_in}
use Rattle.edges.proofs.EndCases.{Raising}
use Rattle.edges.proofs.ends.raise_ends.Given as goal

abbrev pub invariant-loop-x : goal.invariant-loop-x
invariant-loop-x l =
    Raising (windows_in l.by_release.windows) (value_at l.by_release.order) l.b l.initial.ends l.ends l.kept l.latest l.x
