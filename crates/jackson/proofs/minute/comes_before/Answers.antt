-- The test of two entries says which comes first.
-- Assumes nothing.
use borrow.Author.Rules.{rules}
use Rattle.jackson.proofs.minute.comes_before.Goals as goal

pub returns : goal.returns
returns c = search rules
