-- The overload test answers the value check, then row 9.
-- Assumes nothing.
use Rattle.list.proofs.Answered.{handed_on}
use Rattle.jackson.proofs.CallCases.{not_tested, tested}
use Rattle.jackson.proofs.overload_test.overload.Goals as goal

pub returns-in_err-check : goal.returns-in_err-check
returns-in_err-check c = not_tested c.args.list _ (handed_on _ _ c.from_residual.ensures.1) c.in_err-check.ensures

pub returns : goal.returns
returns c = tested c.args.list _ c.in_ok-check.ensures _ c.unchecked_windows.ensures c.unchecked_overload.ensures
