-- `refusal_line` meets its contract.
-- Assumes nothing.
use borrow.Author.Rules.{rules}
use native.Mathlib.Omega.{arith}
use lib.ListN.{get_or}
use mir.Syntax.{w64}
use mir.Val.{Fits}
use Rattle.report.proofs.PromiseCases.{line_stored}
use Rattle.report.proofs.refusal_line.Goals as goal

pub returns : goal.returns
returns c =
    line_stored c.args.code (omega arith) (λ i. let fits : Fits w64 (get_or c.args.code.values i 0) = search rules in fits.fits) _
    (rw c.new-line.ensures at c.put_refusal.ensures) _ _ _ (rw c.as_bytes.ensures at c.store.ensures)
