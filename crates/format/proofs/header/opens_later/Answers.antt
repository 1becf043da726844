-- The test is the definition's.
-- Assumes nothing.
use mathlib.Core.Path.{refl}
use Rattle.format.proofs.header.opens_later.Goals as goal

-- The test is the definition's.
pub returns : goal.returns
returns c = refl
