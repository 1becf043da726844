-- `clashes::clashes_earlier` meets its contract. The loop's invariant: no entry before place i clashes with the one asked.
-- Assumes nothing.
use Rattle.base.proofs.Searches.{Passed}
use Rattle.list.proofs.ClashCases.{earlier_test}
use Rattle.list.proofs.clashes.clashes_earlier.Given as goal

abbrev pub invariant-loop-i : goal.invariant-loop-i
invariant-loop-i l = Passed l.place (earlier_test l.list l.place) l.i
