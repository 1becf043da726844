-- Field by field.
-- Assumes nothing.
use Rattle.flat.proofs.FlatCases.{entry_in_is}
use Rattle.flat.proofs.value.entry_in.Goals as goal

pub returns : goal.returns
returns c =
    entry_in_is c.args.fields.now c.args.at c.seal_in.ensures c.u16_of.ensures
    c.u16_of-2.ensures c.u16_of-3.ensures c.kind_in.ensures
