-- `put_times_text` meets its contract: its fields one after the other.
-- Assumes nothing.
use Rattle.report.specs.Text.{ascii}
use Rattle.report.proofs.CallCases.{times_put}
use Rattle.report.proofs.text.Text.put_times_text.Goals as goal

pub returns : goal.returns
unfolding ascii
returns g c =
    times_put c.args.e c.args.end c.args.start
    (rw c.from.ensures at c.put_after.ensures)
    (rw c.from-2.ensures at c.put_after-2.ensures)
    (rw c.from-3.ensures at c.put_after-3.ensures)
    (rw c.from-4.ensures at c.put_after-4.ensures)
    (rw c.from-5.ensures at c.put_after-5.ensures)
    c.put_bytes.ensures
