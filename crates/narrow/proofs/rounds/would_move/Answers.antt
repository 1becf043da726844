-- A whole entry whose least end is not r + p is moved, whatever the mirror says.
-- Assumes nothing.
use mathlib.Core.Path.{refl}
use Prim.Native.Nat.{◌+◌}
use borrow.Author.Tests.{ne_eqb}
use Rattle.narrow.proofs.rounds.would_move.Goals as goal

pub returns-then-end-from : goal.returns-then-end-from
returns-then-end-from c =
    let other = ne_eqb c.args.end (c.args.r + c.args.p) (rw (c.from.ensures, c.from-p.ensures) at c.if-end-from.true) in
    simp (c.if-whole.true, c.from.ensures, c.from-p.ensures, other) refl
