-- The loop's invariant is the pass so far.
-- Assumes nothing.
use mathlib.Core.Path.{◌≡◌}
use Prim.Native.Nat.{◌-◌}
use Rattle.order.specs.Orders.{value_at}
use Rattle.windows.specs.Windows.{windows_in}
use Rattle.edges.specs.Starts.{passed}
use Rattle.edges.proofs.starts.pass.Given as goal

abbrev pub invariant-loop-x : goal.invariant-loop-x
invariant-loop-x l =
    let v = windows_in l.by_release.windows in
    l.s ≡ passed v (value_at l.by_release.order) l.p l.initial' l.last (v.n - l.x) l.start
