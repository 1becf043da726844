-- The loop's invariant is `ReadInSoFar`.
-- Assumes nothing.
use Rattle.flat.proofs.FlatCases.{ReadInSoFar}
use Rattle.flat.proofs.value.value_in.Given as goal

abbrev pub invariant-loop-i : goal.invariant-loop-i
invariant-loop-i l = ReadInSoFar l.fields l.e-items l.i
