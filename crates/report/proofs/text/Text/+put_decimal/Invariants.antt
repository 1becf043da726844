-- `put_decimal` calls itself with a smaller number.
-- Assumes nothing.
use Rattle.report.proofs.text.Text.+put_decimal.Given as goal

abbrev pub decreases-put_decimal : goal.decreases-put_decimal
decreases-put_decimal g l = l.x
