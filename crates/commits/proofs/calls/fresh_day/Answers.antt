-- The list that was narrowed, or its refusal.
-- Assumes nothing.
use Rattle.list.proofs.Answered.{passed_on}
use Rattle.commits.proofs.CallCases.{fresh_refused, fresh_made}
use Rattle.commits.proofs.calls.fresh_day.Goals as goal

pub returns-in_err-settle : goal.returns-in_err-settle
returns-in_err-settle c = fresh_refused c.args.list _ _ (passed_on _ _ c.from_residual.ensures.1) c.in_err-settle.ensures

pub returns : goal.returns
returns c = fresh_made c.args.list _ c.in_ok-settle.ensures c.trimmed.result c.trimmed.ensures
