-- The value check, then rows 13 and 11.
-- Assumes nothing.
use mathlib.Core.Path.{◌∙◌}
use Rattle.list.proofs.Answered.{handed_on}
use Rattle.planner.proofs.CallCases.{shown_failed, place_unknown, place_known}
use Rattle.planner.proofs.calls.shown_checks.Goals as goal

pub returns-in_err-check : goal.returns-in_err-check
returns-in_err-check c = handed_on _ _ c.from_residual.ensures.1 ∙ shown_failed c.args.list c.in_err-check.ensures c.args.k c.args.room

pub returns-then-from-k : goal.returns-then-from-k
returns-then-from-k c = place_unknown c.args.list c.in_ok-check.ensures c.args.room c.args.k (rw c.from.ensures at c.if-from-k.true)

pub returns : goal.returns
returns c =
    (rw c.from-2.ensures at c.buffer_fault.ensures)
    ∙ place_known c.args.list c.in_ok-check.ensures c.args.room c.args.k (rw c.from.ensures at c.if-from-k.false)
