-- `report` meets its contract: the text may be refused; else it was made in a buffer that has room for every one, and is stored.
-- Assumes nothing.
use borrow.Author.Rules.{rules}
use Rattle.list.proofs.Answered.{passed_on}
use Rattle.report.proofs.PromiseCases.{report_stored, report_refused}
use Rattle.report.proofs.report.Goals as goal

pub returns-in_err-put_report : goal.returns-in_err-put_report
returns-in_err-put_report c =
    report_refused c.args.input.now (λ i. search rules) _ c.in_err-put_report.ensures c.args.out.now c.from_residual.result
    (passed_on _ _ c.from_residual.ensures.1)

pub returns : goal.returns
returns c =
    report_stored c.args.input.now (λ i. search rules) _ (rw c.new-text.ensures at c.in_ok-put_report.ensures) _ _ _
    (rw c.as_bytes.ensures at c.store.ensures)
