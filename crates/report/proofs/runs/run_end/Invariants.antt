-- `runs::run_end` meets its contract. The loop's invariant is `Extends`.
-- Assumes nothing.
use Rattle.report.proofs.RunCases.{Extends}
use Rattle.report.proofs.runs.run_end.Given as goal

abbrev pub invariant-loop-e : goal.invariant-loop-e
invariant-loop-e l = Extends l.plan l.t l.e
