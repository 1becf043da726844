-- The loop's invariant is `Rounded`, the measure the minutes that can still be cut.
-- Assumes nothing.
use Rattle.windows.specs.Windows.{windows_in}
use Rattle.narrow.specs.Rounds.{slack}
use Rattle.list.specs.DayLists.{marked}
use Rattle.narrow.proofs.VisitCases.{Rounded}
use Rattle.narrow.proofs.rounds.all_rounds.Given as goal

abbrev pub invariant-loop-next : goal.invariant-loop-next
invariant-loop-next l = Rounded (marked l.whole) l.fn.windows l.now

abbrev pub decreases-loop-next : goal.decreases-loop-next
decreases-loop-next l = slack (marked l.whole) (windows_in l.now.windows)
