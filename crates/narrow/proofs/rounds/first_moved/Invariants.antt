-- The loop's invariant is that no place before k would move.
-- Assumes nothing.
use Rattle.base.proofs.Searches.{Passed}
use Rattle.list.specs.DayLists.{marked}
use Rattle.windows.specs.Windows.{windows_in}
use Rattle.narrow.specs.FastRounds.{moves_at}
use Rattle.narrow.proofs.rounds.first_moved.Given as goal

abbrev pub invariant-loop-k : goal.invariant-loop-k
invariant-loop-k l =
    Passed (windows_in l.windows).n (moves_at (marked l.whole) (windows_in l.windows)) l.k
