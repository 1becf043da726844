-- `reader::decode` meets its contract: the header decides, or what follows it does.
-- Assumes nothing.
use mathlib.Core.Path.{refl, sym, ◌∙◌}
use Rattle.list.proofs.Answered.{handed_on}
use Rattle.list.proofs.Sound.{header_of}
use Rattle.format.specs.Headers.{count_of}
use Rattle.format.proofs.ReadCases.{decode_short, decode_header, decode_opened}
use Rattle.format.proofs.reader.decode.Goals as goal

pub returns-then-bytes-lt3 : goal.returns-then-bytes-lt3
returns-then-bytes-lt3 c = sym (decode_short c.args.bytes.now c.if-bytes-lt3.true)

pub returns-in_err-header_fault : goal.returns-in_err-header_fault
returns-in_err-header_fault c =
    handed_on _ _ c.from_residual.ensures.1
    ∙ decode_header c.args.bytes.now c.if-bytes-lt3.false _ c.u16_at-h.ensures c.in_err-header_fault.ensures

pub read_opened-requires : goal.read_opened-requires
read_opened-requires c =
    let header = header_of 2 c.u16_at-h.result (count_of c.args.bytes.now) (sym c.in_ok-header_fault.ensures) in
    (c.if-bytes-lt3.false, header.room, c.u16_at-h.ensures, header.some_minutes, refl)

pub returns : goal.returns
returns c =
    c.read_opened.ensures ∙ decode_opened c.args.bytes.now c.if-bytes-lt3.false _ c.u16_at-h.ensures c.in_ok-header_fault.ensures
