-- The loop's invariant is `Visited`.
-- Assumes nothing.
use Rattle.list.specs.DayLists.{marked}
use Rattle.narrow.specs.Calls.{narrowed_by}
use Rattle.narrow.proofs.VisitCases.{Visited}
use Rattle.narrow.proofs.rounds.one_round.Given as goal

abbrev pub invariant-loop-k : goal.invariant-loop-k
invariant-loop-k l = Visited (marked l.whole) (narrowed_by l.fn.given) l.now l.k
