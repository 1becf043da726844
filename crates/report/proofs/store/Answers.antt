-- `store` meets its contract.
-- Assumes nothing.
use Rattle.report.proofs.PromiseCases.{store_short}
use Rattle.report.proofs.store.Goals as goal

pub returns-then-out-size : goal.returns-then-out-size
returns-then-out-size c = store_short _ _ c.if-out-size.true
