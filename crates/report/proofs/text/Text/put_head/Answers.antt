-- `put_head` meets its contract: its fields one after the other.
-- Assumes nothing.
use Rattle.report.specs.Text.{ascii, line}
use Rattle.report.specs.Reports.{head_line}
use Rattle.report.proofs.StepCases.{puts_then}
use Rattle.report.proofs.text.Text.put_head.Goals as goal

pub returns : goal.returns
unfolding head_line line ascii
returns g c =
    puts_then (rw c.from.ensures at c.put_after.ensures)
    (puts_then (rw c.from-2.ensures at c.put_after-2.ensures)
    (puts_then (rw c.from-3.ensures at c.put_after-3.ensures)
    (puts_then (rw c.from-4.ensures at c.put_after-4.ensures) c.put_bytes.ensures)))
