-- A whole entry ends at r + p.
-- Assumes nothing.
use mathlib.Core.Path.{refl}
use Rattle.bounds.proofs.ends.end_by_kind.Goals as goal

pub returns-then-whole : goal.returns-then-whole
returns-then-whole c = rw c.if-whole.true refl
