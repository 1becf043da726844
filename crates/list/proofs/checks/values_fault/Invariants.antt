-- `checks::values_fault` meets its contract. The loop's invariant: the entries passed are sound, so those left decide.
-- Assumes nothing.
use mathlib.Core.Path.{◌≡◌}
use Prim.Native.Nat.{◌≤◌}
use Rattle.list.specs.Checks.{values_fault}
use Rattle.list.proofs.CheckCases.{fault_from}
use Rattle.list.proofs.checks.values_fault.Given as goal

abbrev pub invariant-loop-i : goal.invariant-loop-i
invariant-loop-i l = (l.list.n ≤ 64) × (values_fault l.list ≡ fault_from l.list l.i)
