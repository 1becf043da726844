-- Each way out has its outcome.
-- Assumes nothing.
use Rattle.list.proofs.Answered.{passed_on}
use Rattle.narrow.proofs.CallCases.{settle_turned, settle_narrowed}
use Rattle.narrow.proofs.calls.settle.Goals as goal

pub returns-in_err-check : goal.returns-in_err-check
returns-in_err-check c = settle_turned c.args.list _ _ (passed_on _ _ c.from_residual.ensures.1) c.in_err-check.ensures

pub returns : goal.returns
returns c =
    settle_narrowed c.args.list c.in_ok-check.ensures c.whole_places.result c.whole_places.ensures c.unchecked_windows.result
    c.unchecked_windows.ensures _ _ c.answer_with.ensures c.narrow_windows-found.ensures
