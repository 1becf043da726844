-- The loop finds the definition's next r. Its invariant is the first so far.
-- Assumes nothing.
use borrow.Author.Rules.{rules}
use native.Mathlib.Omega.{arith}
use Rattle.std.proofs.lemmas.Grind.{common_steps}
use Rattle.jackson.specs.Stretches.{next_release}
use Rattle.jackson.proofs.stretch.next_release.Goals as goal

pub loop-r-init : goal.loop-r-init
unfolding next_release
loop-r-init c = search rules

pub loop-r-preserved : goal.loop-r-preserved
unfolding next_release
loop-r-preserved c = grind (arith, common_steps)
