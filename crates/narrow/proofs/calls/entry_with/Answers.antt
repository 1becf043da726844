-- r and d are replaced.
-- Assumes nothing.
use mathlib.Core.Path.{refl}
use Rattle.narrow.proofs.calls.entry_with.Goals as goal

-- r and d are replaced.
pub returns : goal.returns
returns c = refl
