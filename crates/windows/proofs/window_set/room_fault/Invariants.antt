-- The loop's invariant is that the first i places have room.
-- Assumes nothing.
use Rattle.base.proofs.Searches.{Passed}
use Rattle.windows.specs.Windows.{windows_in}
use Rattle.windows.proofs.Room.{lacks_room}
use Rattle.windows.proofs.window_set.room_fault.Given as goal

abbrev pub invariant-loop-i : goal.invariant-loop-i
invariant-loop-i l = let w = windows_in l.windows in Passed w.n (lacks_room w) l.i
