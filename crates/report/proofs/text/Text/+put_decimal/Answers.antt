-- `put_decimal` meets its contract; it calls itself with a smaller number.
-- Assumes nothing.
use Rattle.report.proofs.StepCases.{puts_digit, puts_digits}
use Rattle.report.proofs.text.Text.+put_decimal.Goals as goal
use Rattle.report.proofs.text.Text.+put_decimal.Goals.{then-x-ge10, else-x-ge10}

pub returns : goal.returns
returns g t c =
    elim c.if-x-ge10.branch [
      | then-x-ge10 w ↦ puts_digits _ w.if-x-ge10.true w.put_decimal.ensures (rw w.self-is at c.put_byte.ensures)
      | else-x-ge10 w ↦ puts_digit _ w.if-x-ge10.false (rw w.self-is at c.put_byte.ensures)
    ]
