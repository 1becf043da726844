-- The list in the first numbers, and the stamp after them.
-- Assumes nothing.
use borrow.Author.Rules.{rules}
use mathlib.Core.Path.{◌≡◌, sym}
use lib.ListN.{length}
use Rattle.base.proofs.Walk.{length_mapped}
use Rattle.flat.proofs.DayCases.{front_long, day_stored}
use Rattle.flat.proofs.day.put_day_numbers.Goals as goal

pub slice_bounds-put_numbers-end-2 : goal.slice_bounds-put_numbers-end-2
slice_bounds-put_numbers-end-2 c = sym (front_long c.args.row.now c.requires)

pub put_numbers-requires : goal.put_numbers-requires
put_numbers-requires c = front_long c.args.row.now c.requires

pub returns : goal.returns
returns c =
    let long : length c.args.day.list.entries ≡ 64 = search (rules, length_mapped) in
    rw c.from.ensures (day_stored c.args.day c.args.row.now _ long c.requires c.put_numbers.ensures)
