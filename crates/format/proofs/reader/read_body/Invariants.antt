-- `reader::read_body` meets its contract. The loop's invariant is `SoFar`: the entries read stand in front of those that are still
-- to come, and the places after them are blank.
-- Assumes nothing.
use Rattle.format.proofs.ReadCases.{SoFar}
use Rattle.format.proofs.reader.read_body.Given as goal

abbrev pub invariant-loop-i : goal.invariant-loop-i
invariant-loop-i l = SoFar l.frame l.n l.bytes l.from l.entries l.at l.i
