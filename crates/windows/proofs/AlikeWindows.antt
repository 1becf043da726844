-- Lists that have the same windows: those that differ in their opening minute, serials, seals and kinds alone.
-- Assumes nothing.
use mathlib.Core.Path.{◌≡◌, sym, ap, ◌∙◌}
use mathlib.Core.List.{List}
use Prim.Native.Nat.{ℕ}
use lib.ListN.{length, get_or, length-map, get_or-map}
use Rattle.list.specs.DayLists.{entries_of, blank}
use Rattle.list.specs.declared.types.Entry.{Entry}
use Rattle.list.specs.declared.types.DayList.{DayList}
use Rattle.windows.specs.Windows.{windows_of, plain, SameWindows}

module _ {a b : DayList} (s : SameWindows a b) where
  -- lists of the same numbers have the same windows
  pub alike_windows : windows_of a ≡ windows_of b
  alike_windows =
      λ j.
      record {
        h = s.h j;
        n = count j;
        r = λ i. (numbers i j).r;
        d = λ i. (numbers i j).d;
        p = λ i. (numbers i j).p;
      }
    where
      count : length (entries_of a) ≡ length (entries_of b)
      count = sym (length-map (entries_of a) plain) ∙ ap length s.entries ∙ length-map (entries_of b) plain

      numbers : (i : ℕ) → plain (get_or (entries_of a) i blank) ≡ plain (get_or (entries_of b) i blank)
      numbers i =
          sym (get_or-map plain (entries_of a) i blank)
          ∙ ap (λ (es : List Entry). get_or es i blank) s.entries
          ∙ get_or-map plain (entries_of b) i blank
