-- The sum started anew is the definition's.
-- Assumes nothing.
use mathlib.Core.Path.{refl}
use Rattle.windows.proofs.running_sum.start_anew.Goals as goal

pub returns : goal.returns
returns c = refl
