-- The loop's invariant is that the first i places have room.
-- Assumes nothing.
use mathlib.Core.Path.{sym, ◌∙◌}
use native.Mathlib.Omega.{arith}
use Rattle.windows.specs.Windows.{windows_in}
use Rattle.windows.proofs.RoomCases.{room_minutes, room_stops, room_done}
use Rattle.windows.proofs.window_set.room_fault.Goals as goal

pub returns-then-windows-i-eq0 : goal.returns-then-windows-i-eq0
returns-then-windows-i-eq0 c =
    room_minutes (windows_in c.args.windows) c.loop-i.i c.loop-i.invariant (omega (arith, c.places_held-i-end.ensures, c.loop-i-test.true))
    c.if-windows-i-eq0.true

pub returns-then-not-has_room : goal.returns-then-not-has_room
returns-then-not-has_room c =
    room_stops (windows_in c.args.windows) c.loop-i.i c.loop-i.invariant (omega (arith, c.places_held-i-end.ensures, c.loop-i-test.true))
    c.if-windows-i-eq0.false (sym c.has_room.ensures ∙ c.if-not-has_room.true)

pub returns : goal.returns
returns c = room_done _ _ c.loop-i.invariant (omega (arith, c.places_held-i-end.ensures, c.loop-i-test.false))
