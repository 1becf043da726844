-- The walk finds the definition's left end. The loop's invariant is that none was overloaded so far, the measure what is left of the order.
-- Assumes nothing.
use Prim.Native.Nat.{◌-◌}
use Rattle.order.specs.Orders.{value_at}
use Rattle.windows.specs.Windows.{windows_in}
use Rattle.windows.proofs.LeftEndCases.{NoneSoFar}
use Rattle.windows.proofs.by_release.ByRelease.left_end.Given as goal

abbrev pub invariant-loop-sum : goal.invariant-loop-sum
invariant-loop-sum l = NoneSoFar (windows_in l.self.windows) (value_at l.self.order) l.b l.initial.sum l.sum

abbrev pub decreases-loop-sum : goal.decreases-loop-sum
decreases-loop-sum l = l.count - l.sum.passed
