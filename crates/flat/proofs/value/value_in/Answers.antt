-- The loop's invariant is `ReadInSoFar`.
-- Assumes nothing.
use native.Mathlib.Omega.{arith}
use Rattle.flat.proofs.FlatCases.{read_in_start, read_in_next, read_in_done}
use Rattle.flat.proofs.value.value_in.Goals as goal

pub loop-i-init : goal.loop-i-init
loop-i-init c = read_in_start _ _ (rw c.empty_list.ensures)

pub loop-i-preserved : goal.loop-i-preserved
loop-i-preserved c = read_in_next c.loop-i.invariant _ (omega arith) c.entry_in.ensures

pub returns : goal.returns
returns c =
    rw (
      c.u8_of.ensures,
      c.u16_of-2.ensures,
      c.u16_of.ensures,
      read_in_done c.loop-i.invariant (omega arith),
    )
