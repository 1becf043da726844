-- The value check, then row 11.
-- Assumes nothing.
use mathlib.Core.Path.{◌∙◌}
use Rattle.list.proofs.Answered.{handed_on}
use Rattle.planner.proofs.CallCases.{plan_failed, plan_buffer}
use Rattle.planner.proofs.calls.plan_checks.Goals as goal

pub returns-in_err-check : goal.returns-in_err-check
returns-in_err-check c = handed_on _ _ c.from_residual.ensures.1 ∙ plan_failed c.args.list c.in_err-check.ensures c.args.room

pub returns : goal.returns
returns c = (rw c.from.ensures at c.buffer_fault.ensures) ∙ plan_buffer c.args.list c.in_ok-check.ensures c.args.room
