-- `put_seal_text` meets its contract.
-- Assumes nothing.
use Rattle.report.specs.Text.{ascii}
use Rattle.report.proofs.text.Text.put_seal_text.Goals as goal

pub returns-in-Some : goal.returns-in-Some
unfolding ascii
returns-in-Some g c = rw (c.in-Some.is, ← c.from.ensures) c.put_after.ensures

pub returns-in_default : goal.returns-in_default
unfolding ascii
returns-in_default g c = rw c.in_default.is c.put_bytes.ensures
