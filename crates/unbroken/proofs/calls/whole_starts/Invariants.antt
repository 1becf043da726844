-- The loop's invariant is `Placed`.
-- Assumes nothing.
use mathlib.Core.Bool.{cond}
use Rattle.list.specs.DayLists.{marked}
use Rattle.list.proofs.ByPlace.{Placed}
use Rattle.windows.specs.Windows.{windows_in}
use Rattle.unbroken.proofs.calls.whole_starts.Given as goal

abbrev pub invariant-loop-i : goal.invariant-loop-i
invariant-loop-i l =
    Placed (λ j. cond (marked l.whole j) ((windows_in l.windows).r j) 0) (windows_in l.windows).n l.starts l.i
