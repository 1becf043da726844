-- `put_bytes` meets its contract. The loop's invariant is `PutSoFar`.
-- Assumes nothing.
use Rattle.report.proofs.StepCases.{bytes_next, bytes_done}
use Rattle.report.proofs.text.Text.put_bytes.Goals as goal

pub loop-x-preserved : goal.loop-x-preserved
loop-x-preserved g c = bytes_next c.args.bytes.now c.loop-x.invariant c.loop-x-test.true c.put_byte.ensures

pub returns : goal.returns
returns g c = bytes_done c.args.bytes.now c.loop-x.invariant c.loop-x-test.false
