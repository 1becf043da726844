-- `put_bytes` meets its contract. The loop's invariant is `PutSoFar`.
-- Assumes nothing.
use lib.ListN.{length, take}
use Rattle.report.proofs.StepCases.{PutSoFar}
use Rattle.report.proofs.text.Text.put_bytes.Given as goal

abbrev pub invariant-loop-x : goal.invariant-loop-x
invariant-loop-x g l = PutSoFar g.row.N l.initial.self (take l.x-index l.bytes) l.self l.x-index (length l.bytes)
