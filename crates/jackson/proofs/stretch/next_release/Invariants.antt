-- The loop finds the definition's next r. Its invariant is the first so far.
-- Assumes nothing.
use mathlib.Core.Path.{◌≡◌}
use Rattle.windows.specs.Windows.{windows_in}
use Rattle.jackson.specs.Stretches.{next_release}
use Rattle.jackson.proofs.stretch.next_release.Given as goal

abbrev pub invariant-loop-r : goal.invariant-loop-r
invariant-loop-r l = l.first ≡ next_release l.r-index (windows_in l.windows).r l.t l.end
