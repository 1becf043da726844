-- What the public functions promise of the windows of a list.
use Rattle.std.specs.Prelude.{◌≡◌}
use Rattle.list.specs.declared.types.DayList.{DayList}
use Rattle.windows.specs.Windows.{windows_of, windows_in}
use Rattle.windows.specs.declared.types.WindowSet.{WindowSet}

-- arrays that hold the windows of a list, whatever the list is
pub record Holds (l : DayList) (s : WindowSet) : Type 0 where
  pub windows : windows_in s ≡ windows_of l
  pub n : s.n ≡ l.n
