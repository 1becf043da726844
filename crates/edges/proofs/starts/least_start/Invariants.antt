-- The loop's invariant is that the search from s on finds what it finds from the entry's r on; the measure is what is left of the window.
-- Assumes nothing.
use Prim.Native.Nat.{suc, ◌-◌}
use Rattle.order.specs.Orders.{value_at}
use Rattle.windows.specs.Windows.{windows_in}
use Rattle.edges.specs.Starts.{start_from}
use Rattle.edges.proofs.StartCases.{passes, Searching}
use Rattle.edges.proofs.starts.least_start.Given as goal

abbrev pub invariant-loop-others : goal.invariant-loop-others
invariant-loop-others l =
    let v = windows_in l.others.windows in
    Searching v (value_at l.others.order) l.first l.last l.p
    (start_from v (value_at l.others.order) l.first l.last l.p (passes l.first l.last l.p) l.first) l.s

abbrev pub decreases-loop-others : goal.decreases-loop-others
decreases-loop-others l = suc l.last - l.s
