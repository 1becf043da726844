-- `reader::read_opening` meets its contract: the rows of the opening minute decide, or what follows them does.
-- Assumes nothing.
use mathlib.Core.Path.{sym, ◌∙◌}
use Prim.Native.Nat.{◌≤◌}
use lib.ListN.{length}
use Rattle.list.proofs.Answered.{handed_on}
use Rattle.format.specs.Headers.{entries_place}
use Rattle.format.proofs.ReadCases.{opened_short, opened_zero, opened_refused, opened_body}
use Rattle.format.proofs.ReadCases.{written_place, written_frame, written_zero, written_kept}
use Rattle.format.proofs.reader.read_opening.Goals as goal

pub returns-then-bytes-lt5 : goal.returns-then-bytes-lt5
returns-then-bytes-lt5 c =
    sym (opened_short c.args.bytes.now (rw (← written_place c.args.bytes.now c.requires.3) c.if-bytes-lt5.true))

pub returns-then-opening-eq0 : goal.returns-then-opening-eq0
returns-then-opening-eq0 c =
    let bytes = c.args.bytes.now in
    let long : entries_place bytes ≤ length bytes = rw (← written_place bytes c.requires.3) c.if-bytes-lt5.false in
    sym (opened_zero bytes long (written_zero bytes c.requires.3 (sym c.u16_at-opening.ensures ∙ c.if-opening-eq0.true)))

pub returns-in_err-opening_fault : goal.returns-in_err-opening_fault
returns-in_err-opening_fault c =
    let bytes = c.args.bytes.now in
    let long : entries_place bytes ≤ length bytes = rw (← written_place bytes c.requires.3) c.if-bytes-lt5.false in
    let kept = written_kept bytes c.requires.3 (λ z. c.if-opening-eq0.false (c.u16_at-opening.ensures ∙ z)) in
    let frame_read = written_frame bytes c.requires.3 _ _ c.requires.1 c.u16_at-opening.ensures in
    handed_on _ _ c.from_residual.ensures.1 ∙ opened_refused bytes long kept _ frame_read c.in_err-opening_fault.ensures

pub read_body-requires : goal.read_body-requires
read_body-requires c =
    let bytes = c.args.bytes.now in
    let frame_read = written_frame bytes c.requires.3 _ _ c.requires.1 c.u16_at-opening.ensures in
    (c.if-bytes-lt5.false, c.requires.0, frame_read, c.requires.2, written_place bytes c.requires.3)

pub returns : goal.returns
returns c =
    let bytes = c.args.bytes.now in
    let long : entries_place bytes ≤ length bytes = rw (← written_place bytes c.requires.3) c.if-bytes-lt5.false in
    let kept = written_kept bytes c.requires.3 (λ z. c.if-opening-eq0.false (c.u16_at-opening.ensures ∙ z)) in
    let frame_read = written_frame bytes c.requires.3 _ _ c.requires.1 c.u16_at-opening.ensures in
    c.read_body.ensures ∙ sym (opened_body bytes long kept _ frame_read c.in_ok-opening_fault.ensures)
