-- Row 18 holds or not.
-- Assumes nothing.
use mathlib.Core.Path.{sym}
use Rattle.commits.proofs.RowFacts.{ask_room, ask_full}
use Rattle.commits.proofs.calls.ask_fault.Goals as goal

pub returns-then-from-lt-ENTRIES : goal.returns-then-from-lt-ENTRIES
returns-then-from-lt-ENTRIES c = sym (ask_room c.args.day (rw c.from.ensures at c.if-from-lt-ENTRIES.true))

pub returns : goal.returns
returns c = sym (ask_full c.args.day (rw c.from.ensures at c.if-from-lt-ENTRIES.false))
