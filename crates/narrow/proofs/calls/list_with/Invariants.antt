-- The loop's invariant is `Filled`.
-- Assumes nothing.
use Rattle.windows.specs.Windows.{windows_in}
use Rattle.narrow.proofs.ListCases.{Filled}
use Rattle.narrow.proofs.calls.list_with.Given as goal

abbrev pub invariant-loop-i : goal.invariant-loop-i
invariant-loop-i l = Filled l.list (windows_in l.windows) l.count l.entries l.i
