-- "the mirror (minute t becomes H-1-t, [r, d) becomes [H-d, H-r), places kept)". Code mirrors windows alone.
use Rattle.std.specs.Prelude.{ℕ, suc, ◌-◌, ◌≡◌, cond, List, map, ltb}
use Rattle.base.specs.Counting.{list_of}
use Rattle.list.specs.DayLists.{entries_of, day_list}
use Rattle.list.specs.declared.types.Entry.{Entry}
use Rattle.list.specs.declared.types.DayList.{DayList}
use Rattle.windows.specs.Windows.{Windows, windows_in}
use Rattle.windows.specs.Plans.{places_in}
use Rattle.windows.specs.declared.types.WindowSet.{WindowSet}

-- the mirror of windows; from place n on r and d stay as they are
abbrev pub mirror : Windows → Windows
mirror w =
    record {
      h = w.h;
      n = w.n;
      r = λ i. cond (ltb i w.n) (w.h - w.d i) (w.r i);
      d = λ i. cond (ltb i w.n) (w.h - w.r i) (w.d i);
      p = w.p;
    }

-- the mirror of an entry in a day of h minutes
abbrev pub mirror_entry : ℕ → Entry → Entry
mirror_entry h e = record { serial = e.serial; seal = e.seal; r = h - e.d; d = h - e.r; p = e.p; kind = e.kind }

-- document 02: "the mirrored list has opening minute 0": with another one, an entry could come before it
abbrev pub mirror_list : DayList → DayList
mirror_list l = day_list (record { h = l.frame.h; opening = 0 }) (map (mirror_entry l.frame.h) (entries_of l))

-- arrays that hold the mirror of the windows of others
pub record MirrorOf (s t : WindowSet) : Type 0 where
  pub windows : windows_in t ≡ mirror (windows_in s)
  pub n : t.n ≡ s.n

-- the mirror of a plan of h minutes
abbrev pub mirror_plan : ℕ → (ℕ → ℕ) → ℕ → ℕ
mirror_plan h m t = m (h - suc t)

-- the mirror of a plan's bytes
abbrev pub mirror_bytes : ℕ → List ℕ → List ℕ
mirror_bytes h bytes = list_of h (mirror_plan h (places_in bytes))
