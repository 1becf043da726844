-- The windows of a well-formed list have room.
-- Assumes nothing.
use Prim.Native.Nat.{◌≤◌}
use native.Mathlib.Omega.{arith}
use lib.ListN.{length-take}
use Rattle.list.specs.Checks.{WellFormed}
use Rattle.list.specs.declared.types.DayList.{DayList}
use Rattle.list.proofs.Sound.{sound_list, sound_at}
use Rattle.windows.specs.Windows.{windows_of, Formed}

module _ (l : DayList) (formed : WellFormed l) where
  -- it has at most 64 entries
  pub list_few : (windows_of l).n ≤ 64
  list_few = omega (arith, length-take l.n l.entries, (sound_list l formed).header.room)

  -- the windows of a well-formed list have room
  pub list_formed : Formed (windows_of l)
  list_formed =
      record {
        few = omega (arith, list_few);
        minutes = λ i h. (sound_at l formed i h).some_minutes;
        in_day = λ i h. (sound_at l formed i h).in_day;
        room = λ i h. (sound_at l formed i h).room;
      }
