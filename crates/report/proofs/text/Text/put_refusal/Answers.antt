-- `put_refusal` meets its contract.
-- Assumes nothing.
use Rattle.report.specs.Text.{ascii}
use Rattle.report.proofs.StepCases.{puts_then}
use Rattle.report.proofs.CallCases.{refusal_put}
use Rattle.report.proofs.text.Text.put_refusal.Goals as goal

pub returns : goal.returns
unfolding ascii
returns g c =
    refusal_put c.args.code
    (puts_then c.put_after.ensures (puts_then c.put_carried.ensures c.put_bytes.ensures))
