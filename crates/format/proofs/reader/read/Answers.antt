-- `reader::read` meets its contract: rows 1 to 8, 15 and 16 decide, or the first entry that clashes with an earlier one.
-- Assumes nothing.
use mathlib.Core.Path.{◌∙◌}
use native.Mathlib.Omega.{arith}
use Rattle.list.proofs.Answered.{handed_on}
use Rattle.format.proofs.ReadCases.{read_decoded}
use Rattle.format.proofs.CallCases.{reads, reads_clash, reads_apart}
use Rattle.format.proofs.reader.read.Goals as goal

pub returns-in_err-list : goal.returns-in_err-list
returns-in_err-list c =
    reads c.args.bytes.now _ (λ i. (c.type_inv.bytes i).fits)
    (handed_on _ _ c.from_residual.ensures.1 ∙ read_decoded c.args.bytes.now c.in_err-list.ensures)

pub map_place-requires : goal.map_place-requires
map_place-requires c = omega (arith, c.if-entry-places_held.true, c.places_held.ensures)

pub returns-then-entry-places_held : goal.returns-then-entry-places_held
returns-then-entry-places_held c =
    reads_clash c.args.bytes.now (λ i. (c.type_inv.bytes i).fits) _ c.in_ok-list.ensures _ _ c.first_clash-entry.ensures c.places_held.ensures _
    c.if-entry-places_held.true c.map_place.ensures

pub returns : goal.returns
returns c =
    reads_apart c.args.bytes.now (λ i. (c.type_inv.bytes i).fits) _ c.in_ok-list.ensures _ _ c.first_clash-entry.ensures c.places_held.ensures
    c.if-entry-places_held.false
