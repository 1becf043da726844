-- `put_entry_line` meets its contract: its fields one after the other.
-- Assumes nothing.
use Rattle.report.specs.Text.{ascii, line}
use Rattle.report.specs.Reports.{entry_line}
use Rattle.report.proofs.StepCases.{puts_then}
use Rattle.report.proofs.text.Text.put_entry_line.Goals as goal

pub returns : goal.returns
unfolding entry_line line ascii
returns g c =
    puts_then c.put_decimal.ensures (puts_then (rw c.from.ensures at c.put_after.ensures) (puts_then c.put_seal_text.ensures
    (puts_then c.put_kind_text.ensures c.put_times_text.ensures)))
