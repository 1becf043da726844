-- The loop's invariant is `NumbersPut`.
-- Assumes nothing.
use Rattle.flat.proofs.FlatCases.{NumbersPut}
use Rattle.flat.proofs.value.put_numbers.Given as goal

abbrev pub invariant-loop-i : goal.invariant-loop-i
invariant-loop-i l = NumbersPut l.fn.list l.fields l.i
