-- `writer::put_list` meets its contract. The loop's invariant is `StoredSoFar`: storing the rest gives the one form.
-- Assumes nothing.
use mathlib.Core.Path.{◌∙◌}
use Rattle.format.proofs.WriteCases.{header_room, list_stored, stored_start, stored_room, stored_next, stored_done}
use Rattle.format.proofs.writer.put_list.Goals as goal

pub put_header-at-requires : goal.put_header-at-requires
put_header-at-requires c =
    (c.requires.0, header_room c.args.list _ c.requires.1)

pub loop-e-init : goal.loop-e-init
loop-e-init c =
    stored_start c.args.list _ _ _ c.put_header-at.ensures c.requires.1

pub put_entry-at-requires : goal.put_entry-at-requires
put_entry-at-requires c =
    rw c.from.ensures (stored_room c.args.list _ _ _ _ _ _ c.loop-e.invariant (rw c.from.ensures at c.loop-e-test.true))

pub loop-e-preserved : goal.loop-e-preserved
loop-e-preserved c =
    stored_next c.args.list _ _ _ _ _ _ _ _ c.loop-e.invariant (rw c.from.ensures at c.loop-e-test.true)
    (rw c.from.ensures at c.put_entry-at.ensures)

pub returns : goal.returns
returns c =
    stored_done c.args.list _ _ _ _ _ c.loop-e.invariant (rw c.from.ensures at c.loop-e-test.false)
    ∙ list_stored c.args.list c.put_header-at.ensures
