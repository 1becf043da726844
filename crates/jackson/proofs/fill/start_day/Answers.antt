-- Starting a day answers the value check or the day's first state.
-- Assumes nothing.
use Rattle.list.proofs.Answered.{handed_on}
use Rattle.jackson.proofs.CallCases.{not_started, started}
use Rattle.jackson.proofs.fill.start_day.Goals as goal

pub returns-in_err-check : goal.returns-in_err-check
returns-in_err-check c = not_started c.args.list _ (handed_on _ _ c.from_residual.ensures.1) c.in_err-check.ensures

pub returns : goal.returns
returns c = started c.args.list c.in_ok-check.ensures _ c.unchecked_windows.ensures _ c.day_start.ensures
