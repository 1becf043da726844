-- The windows of a list, entry by entry.
-- Assumes nothing.
use mathlib.Core.Path.{◌≡◌, fun_ext}
use Prim.Native.Nat.{ℕ}
use lib.ListN.{length, get_or}
use Rattle.list.specs.DayLists.{entries_of, blank}
use Rattle.list.specs.declared.types.Entry.{Entry}
use Rattle.list.specs.declared.types.DayList.{DayList}
use Rattle.windows.specs.Windows.{Windows, windows_of}

-- an entry has the window and the minutes of work at a place
pub record WindowAt (e : Entry) (w : Windows) (i : ℕ) : Type 0 where
  pub r : e.r ≡ w.r i
  pub d : e.d ≡ w.d i
  pub p : e.p ≡ w.p i

pub windows_at : (l : DayList) (w : Windows) → l.frame.h ≡ w.h → length (entries_of l) ≡ w.n
    → ((i : ℕ) → WindowAt (get_or (entries_of l) i blank) w i) → windows_of l ≡ w
windows_at l w day count each =
    λ j. record {
      h = day j;
      n = count j;
      r = fun_ext {f = (windows_of l).r} {g = w.r} (λ i. (each i).r) j;
      d = fun_ext {f = (windows_of l).d} {g = w.d} (λ i. (each i).d) j;
      p = fun_ext {f = (windows_of l).p} {g = w.p} (λ i. (each i).p) j;
    }
