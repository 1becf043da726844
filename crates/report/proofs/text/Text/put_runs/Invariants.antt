-- `put_runs` meets its contract. The loop's invariant is `PutSoFar`.
-- Assumes nothing.
use lib.ListN.{length}
use Rattle.report.specs.Text.{texts}
use Rattle.report.specs.Internal.{run_text_at}
use Rattle.report.proofs.StepCases.{PutSoFar}
use Rattle.report.proofs.text.Text.put_runs.Given as goal

abbrev pub invariant-loop-t : goal.invariant-loop-t
invariant-loop-t g l = PutSoFar g.row.N l.initial.self (texts l.t (run_text_at l.plan)) l.self l.t (length l.plan)
