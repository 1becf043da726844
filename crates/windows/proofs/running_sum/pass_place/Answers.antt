-- A place is passed: its box ends after b, or else enters.
-- Assumes nothing.
use native.Mathlib.Omega.{arith}
use Rattle.windows.proofs.LeftEndCases.{passes_out}
use Rattle.windows.proofs.running_sum.pass_place.Goals as goal

pub returns-then-b-d : goal.returns-then-b-d
returns-then-b-d c = passes_out _ _ _ _ (omega arith) c.if-b-d.true
