-- `put_run` meets its contract: its fields one after the other.
-- Assumes nothing.
use Rattle.report.specs.Text.{ascii, line}
use Rattle.report.specs.Reports.{run_line}
use Rattle.report.proofs.StepCases.{puts_then}
use Rattle.report.proofs.text.Text.put_run.Goals as goal

pub returns : goal.returns
unfolding run_line line ascii
returns g c =
    puts_then c.put_decimal.ensures (puts_then c.put_after.ensures (puts_then (rw c.from.ensures at c.put_after-2.ensures)
    c.put_bytes.ensures))
