-- `put_kind_text` meets its contract.
-- Assumes nothing.
use Rattle.report.specs.Text.{ascii}
use Rattle.report.proofs.text.Text.put_kind_text.Goals as goal

pub returns-in-Pause : goal.returns-in-Pause
unfolding ascii
returns-in-Pause g c = rw c.in-Pause.is c.put_bytes.ensures

pub returns-in-Whole : goal.returns-in-Whole
unfolding ascii
returns-in-Whole g c = rw c.in-Whole.is c.put_bytes-in-Whole.ensures
