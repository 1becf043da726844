-- `put_report` meets its contract: reading may refuse, and then planning.
-- Assumes nothing.
use Rattle.list.proofs.Answered.{passed_on}
use Rattle.report.proofs.DayCases.{unread_is, read_put}
use Rattle.report.proofs.text.Text.put_report.Goals as goal

pub returns-in_err-read : goal.returns-in_err-read
returns-in_err-read g c = rw (passed_on _ _ c.from_residual.ensures.1) (unread_is c.args.input.now _ c.in_err-read.ensures)

pub returns : goal.returns
returns g c = read_put c.args.input.now _ c.in_ok-read.ensures _ _ _ c.put_planned.result c.put_planned.ensures
