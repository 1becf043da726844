-- A narrowed list in numbers.
-- Assumes nothing.
use Rattle.abi.proofs.CallCases.{narrowed_given}
use Rattle.abi.proofs.give_narrowed.Goals as goal

pub returns : goal.returns
returns c =
    rw c.from.ensures
    (narrowed_given c.args.narrowed.now c.args.found c.args.second c.args.third _ c.requires c.put_flat.ensures)
