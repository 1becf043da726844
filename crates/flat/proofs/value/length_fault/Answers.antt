-- Row 100, by the length.
-- Assumes nothing.
use borrow.Author.Tests.{ne_eqb}
use Rattle.flat.proofs.value.length_fault.Goals as goal

pub returns-else-numbers-asked : goal.returns-else-numbers-asked
returns-else-numbers-asked c = simp (ne_eqb _ _ c.if-numbers-asked.false)
