-- `main` lends buffers that are long enough.
-- Assumes nothing.
use borrow.Author.Rules.{rules}
use Rattle.dock.proofs.Cases.{limit_is}
use Rattle.dock.proofs.main.Goals as goal

pub text_of-size-requires-clause-input_limit : goal.text_of-size-requires-clause-input_limit
text_of-size-requires-clause-input_limit c = limit_is _ (search rules) (search rules)

pub text_of-size-requires-clause-enough_in_bounds : goal.text_of-size-requires-clause-enough_in_bounds
text_of-size-requires-clause-enough_in_bounds c = search rules
