-- `form::put_entry` meets its contract: the map byte, the serial, the seal and the times one after the other.
-- Assumes nothing.
use native.Mathlib.Omega.{arith}
use Rattle.format.proofs.FormCases.{entry_length, serial_room, seal_room, times_room, entry_stored}
use Rattle.format.proofs.form.put_entry.Goals as goal

pub bounds-out-at : goal.bounds-out-at
bounds-out-at c =
    omega (arith, c.requires, entry_length c.args.frame c.args.e)

pub put_u32-a-requires : goal.put_u32-a-requires
put_u32-a-requires c = serial_room c.args.frame c.args.e c.fields_in-m.ensures c.map_of.ensures _ _ c.requires

pub put_seal-b-requires : goal.put_seal-b-requires
put_seal-b-requires c =
    seal_room c.args.frame c.args.e c.fields_in-m.ensures c.map_of.ensures _ _ c.requires c.put_u32-a.ensures

pub put_times-requires : goal.put_times-requires
put_times-requires c =
    times_room c.args.frame c.args.e c.fields_in-m.ensures c.map_of.ensures _ _ c.requires c.put_u32-a.ensures c.put_seal-b.ensures

pub returns : goal.returns
returns c =
    entry_stored c.args.frame c.args.e c.fields_in-m.ensures c.map_of.ensures c.put_u32-a.ensures
    c.put_seal-b.ensures c.put_times.ensures
