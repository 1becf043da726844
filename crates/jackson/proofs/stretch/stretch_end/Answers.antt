-- The end of a stretch is the definition's.
-- Assumes nothing.
use borrow.Author.Rules.{rules}
use Rattle.jackson.specs.Stretches.{stretch_end}
use Rattle.jackson.proofs.stretch.stretch_end.Goals as goal

pub returns : goal.returns
unfolding stretch_end
returns c = search rules
