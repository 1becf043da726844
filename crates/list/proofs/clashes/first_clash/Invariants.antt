-- `clashes::first_clash` meets its contract. The loop's invariant: no entry before the place clashes with an earlier one.
-- Assumes nothing.
use Rattle.base.proofs.Searches.{Passed}
use Rattle.list.specs.DayLists.{entries_of}
use Rattle.list.specs.Clashes.{clashes_earlier}
use Rattle.list.proofs.clashes.first_clash.Given as goal

abbrev pub invariant-loop-place : goal.invariant-loop-place
invariant-loop-place l = Passed l.count (clashes_earlier (entries_of l.list)) l.place
