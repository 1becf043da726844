-- `header::put_header` meets its contract: H, the count byte and the opening minute one after the other.
-- Assumes nothing.
use native.Mathlib.Omega.{arith}
use Rattle.base.proofs.Stores.{wrote_length}
use Rattle.format.proofs.HeaderTrip.{header_length}
use Rattle.format.proofs.WriteCases.{minute_room, header_stored}
use Rattle.format.proofs.header.put_header.Goals as goal

pub put_u16-requires : goal.put_u16-requires
put_u16-requires c =
    omega (arith, c.requires.1, header_length c.args.frame c.args.n)

pub bounds-out-2 : goal.bounds-out-2
bounds-out-2 c =
    omega (arith, c.requires.1, header_length c.args.frame c.args.n, wrote_length c.put_u16.ensures)

pub put_minute-requires : goal.put_minute-requires
put_minute-requires c =
    minute_room c.args.frame c.args.n c.count_byte.result _ c.opens_later-written.ensures c.count_byte.ensures c.put_u16.ensures
    c.requires.1

pub returns : goal.returns
returns c =
    header_stored c.args.frame c.args.n c.count_byte.result _ c.opens_later-written.ensures c.count_byte.ensures c.put_u16.ensures
    c.put_minute.ensures
