-- `writer::put_list` meets its contract. The loop's invariant is `StoredSoFar`: storing the rest gives the one form.
-- Assumes nothing.
use Rattle.format.proofs.WriteCases.{StoredSoFar}
use Rattle.format.proofs.writer.put_list.Given as goal

abbrev pub invariant-loop-e : goal.invariant-loop-e
invariant-loop-e l = StoredSoFar l.fn.list l.initial.out l.initial.at l.out l.at l.e-index
