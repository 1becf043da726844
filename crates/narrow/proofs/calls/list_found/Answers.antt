-- The list with these windows, and the moves.
-- Assumes nothing.
use mathlib.Core.Path.{refl}
use Rattle.narrow.proofs.calls.list_found.Goals as goal

pub returns : goal.returns
returns c = rw c.list_with.ensures refl
