-- The loop's invariant is that no whole entry was met.
-- Assumes nothing.
use Rattle.list.specs.DayLists.{marked}
use Rattle.windows.specs.Windows.{windows_in}
use Rattle.narrow.specs.Rounds.{unmoved}
use Rattle.narrow.proofs.UnplannedCases.{PausesBelow}
use Rattle.narrow.proofs.rounds.unplanned_round.Given as goal

abbrev pub invariant-loop-k : goal.invariant-loop-k
invariant-loop-k l = PausesBelow (marked l.whole) (unmoved (windows_in l.windows)) l.k
