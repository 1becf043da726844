-- `entry::entry_at` meets its contract, field by field.
-- Assumes nothing.
use Rattle.format.proofs.EntryCases.{entry_is}
use Rattle.format.proofs.entry.entry_at.Goals as goal

pub returns : goal.returns
returns c =
    entry_is c.args.frame c.args.m c.args.rest.now _ _ _ _ _ _ _ _ _ _
    c.u32_at.ensures c.seal_at.ensures
    c.minute_at.ensures c.r_place.ensures c.default_r.ensures
    c.minute_at-2.ensures c.d_place.ensures c.default_d.ensures
    c.u16_at.ensures c.p_place.ensures
