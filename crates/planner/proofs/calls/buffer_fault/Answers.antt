-- The row, and its passing.
-- Assumes nothing.
use mathlib.Core.Path.{refl}
use borrow.Author.Tests.{lt-ltb, le-ltb}
use Rattle.planner.proofs.calls.buffer_fault.Goals as goal

-- The row, and its passing.
pub returns-then-room-h : goal.returns-then-room-h
returns-then-room-h c = rw (lt-ltb c.args.room c.args.h c.if-room-h.true) refl

pub returns : goal.returns
returns c = rw (le-ltb c.args.room c.args.h c.if-room-h.false) refl
