-- The search for the next unfinished room: what is left of it finds what all of it finds.
-- Assumes nothing.
use mathlib.Core.Path.{◌≡◌}
use Prim.Native.Nat.{◌-◌, ◌<◌}
use Rattle.rooms.specs.Cycles.{next_from, next_unfinished}
use Rattle.rooms.specs.Internal.{unfinished_in}
use Rattle.rooms.proofs.desk.next_unfinished.Given as goal

abbrev pub invariant-loop : goal.invariant-loop
invariant-loop l =
    (l.at < l.n) × (next_unfinished (unfinished_in l.rows) l.n l.number ≡ next_from (unfinished_in l.rows) l.n (l.n - l.counter) l.at)
