-- One minute is the case of so many minutes.
-- Assumes nothing.
use Rattle.jackson.proofs.MinuteCases.{after_one}
use Rattle.jackson.proofs.minute.advanced.Goals as goal

pub returns : goal.returns
returns c = after_one _ _ _ c.advanced_by.ensures
