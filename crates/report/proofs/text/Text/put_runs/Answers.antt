-- `put_runs` meets its contract. The loop's invariant is `PutSoFar`.
-- Assumes nothing.
use lib.ListN.{length}
use Rattle.report.specs.Text.{texts}
use Rattle.report.specs.Reports.{run_lines}
use Rattle.report.specs.Internal.{run_text_at}
use Rattle.report.proofs.StepCases.{so_far_none, texts_next, texts_done}
use Rattle.report.proofs.text.Text.put_runs.Goals as goal

pub loop-t-init : goal.loop-t-init
unfolding texts
loop-t-init g c = so_far_none _ _ _

pub loop-t-preserved : goal.loop-t-preserved
loop-t-preserved g c =
    texts_next (length c.args.plan.now) (run_text_at c.args.plan.now) c.loop-t.invariant c.loop-t-test.true c.put_run_at.ensures

pub returns : goal.returns
unfolding run_lines
returns g c = texts_done _ _ c.loop-t.invariant c.loop-t-test.false
