-- The law of the mirrored list.
use Rattle.std.specs.Prelude.{ℕ, ◌≡◌, get_or}
use Rattle.list.specs.DayLists.{entries_of, blank, SameBox}
use Rattle.list.specs.Checks.{WellFormed}
use Rattle.list.specs.declared.types.DayList.{DayList}
use Rattle.windows.specs.Windows.{windows_of}
use Rattle.windows.specs.Mirrors.{mirror, mirror_list}

-- the law of the mirrored list, for every list: it has opening minute 0, the mirrored windows, and the boxes of the list, "places kept"; it
-- is well-formed if the list is
pub record MirrorLaw (l : DayList) : Type 0 where
  pub opening : (mirror_list l).frame.opening ≡ 0
  pub windows : windows_of (mirror_list l) ≡ mirror (windows_of l)
  pub boxes : (i : ℕ) → SameBox (get_or (entries_of (mirror_list l)) i blank) (get_or (entries_of l) i blank)
  pub formed : WellFormed l → WellFormed (mirror_list l)
