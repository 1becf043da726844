-- "A set of windows has one for each entry." The rules speak of windows by the entry's place, as functions of it.
use Rattle.std.specs.Prelude.{ℕ, ◌+◌, ◌-◌, ◌<◌, ◌≤◌, min, max, ◌≡◌, Bool, cond, not, ◌&&◌, List, [], ◌∷◌, map, length, get_or, eqb, leb}
use Rattle.std.specs.Prelude.{None}
use Rattle.std.specs.Prelude.{ltb}
use Rattle.base.specs.Outcomes.{Outcome, answered, row, first_of}
use Rattle.base.specs.Counting.{first_below}
use Rattle.list.specs.DayLists.{entries_of, blank, most_entries}
use Rattle.list.specs.declared.types.Kind.TheVariants.{Pause}
use Rattle.list.specs.declared.types.Entry.{Entry}
use Rattle.list.specs.declared.types.DayList.{DayList}
use Rattle.windows.specs.declared.types.WindowSet.{WindowSet}

-- a day of h minutes with n entries: the window [r i, d i) of the entry at place i and the p i minutes that it needs
pub record Windows : Type 0 where
  pub h : ℕ
  pub n : ℕ
  pub r : ℕ → ℕ
  pub d : ℕ → ℕ
  pub p : ℕ → ℕ

-- the windows of a list's entries
abbrev pub windows_of : DayList → Windows
windows_of l =
    record {
      h = l.frame.h;
      n = length (entries_of l);
      r = λ i. (get_or (entries_of l) i blank).r;
      d = λ i. (get_or (entries_of l) i blank).d;
      p = λ i. (get_or (entries_of l) i blank).p;
    }

-- an entry without its serial, seal and kind
abbrev pub plain : Entry → Entry
plain e = record { serial = 0; seal = None; r = e.r; d = e.d; p = e.p; kind = Pause }

-- two lists with the same H and n, and of each entry the same r, d and p: opening minutes, serials, seals and kinds are not compared
pub record SameWindows (a b : DayList) : Type 0 where
  pub h : a.frame.h ≡ b.frame.h
  pub n : a.n ≡ b.n
  pub entries : map plain (entries_of a) ≡ map plain (entries_of b)

-- the windows that arrays hold
abbrev pub columns : ℕ → ℕ → List ℕ → List ℕ → List ℕ → Windows
columns h n r d p = record { h = h; n = n; r = λ i. get_or r i 0; d = λ i. get_or d i 0; p = λ i. get_or p i 0 }

-- the windows that a value of the code's type holds: its arrays have 64 places, whatever its n
abbrev pub windows_in : WindowSet → Windows
windows_in s = columns s.h (min s.n most_entries) s.r s.d s.p

-- "A window [r, d) lies in 0 to H and holds at least p minutes." An entry that needs none needs no room, as a finished one in a running
-- day.
pub record Roomy (w : Windows) : Type 0 where
  pub in_day : (i : ℕ) → i < w.n → 1 ≤ w.p i → w.d i ≤ w.h
  pub room : (i : ℕ) → i < w.n → 1 ≤ w.p i → w.r i + w.p i ≤ w.d i

-- What the laws ask of windows: at most 255 entries, since a byte names no more, each of which needs a minute and has room in the day.
-- The windows of a list that passes the value check have this.
pub record Formed (w : Windows) : Type 0 where
  pub few : w.n ≤ 255
  pub minutes : (i : ℕ) → i < w.n → 1 ≤ w.p i
  pub in_day : (i : ℕ) → i < w.n → w.d i ≤ w.h
  pub room : (i : ℕ) → i < w.n → w.r i + w.p i ≤ w.d i

-- the test of one entry: it needs a minute, and has room for its p minutes in [r, d) and in a day of h minutes
abbrev pub has_room : ℕ → ℕ → ℕ → ℕ → Bool
has_room h r d p = leb 1 p && (leb d h && leb (r + p) d)

-- rows 6 and 7 for windows, the test of `Formed`: they carry the first place that has no minutes or no room
unfoldable pub room_fault : Windows → Outcome (Unit {0})
room_fault w =
    let i = first_below w.n (λ j. not (has_room w.h (w.r j) (w.d j) (w.p j))) in
    first_of (row 6 (ltb i w.n && eqb (w.p i) 0) i ∷ row 7 (ltb i w.n) i ∷ []) (answered tt)

-- arrays with windows that have room, and an entry
pub record Searchable (s : WindowSet) (k : ℕ) : Type 0 where
  pub formed : Formed (windows_in s)
  pub place : k < (windows_in s).n

-- "It lies inside another if each of its r is at least, and each of its d at most, the other's."
pub record Inside (v w : Windows) : Type 0 where
  pub r : (i : ℕ) → i < w.n → w.r i ≤ v.r i
  pub d : (i : ℕ) → i < w.n → v.d i ≤ w.d i

-- the same entries with other windows
abbrev pub with_windows : Windows → (ℕ → ℕ) → (ℕ → ℕ) → Windows
with_windows w r d = record { h = w.h; n = w.n; r = r; d = d; p = w.p }

-- f, but x at place k
abbrev pub put : ℕ → ℕ → (ℕ → ℕ) → ℕ → ℕ
put k x f i = cond (eqb i k) x (f i)

-- the windows with another r, with another d of entry k
abbrev pub with_r : Windows → ℕ → ℕ → Windows
with_r w k s = with_windows w (put k s w.r) w.d

abbrev pub with_d : Windows → ℕ → ℕ → Windows
with_d w k e = with_windows w w.r (put k e w.d)

-- the windows with [s, e) as that of entry k
abbrev pub with_window : Windows → ℕ → ℕ → ℕ → Windows
with_window w k s e = with_windows w (put k s w.r) (put k e w.d)

-- the windows "when its window is [s, s + p) and the others keep theirs"
abbrev pub fixed_at : Windows → ℕ → ℕ → Windows
fixed_at w k s = with_window w k s (s + w.p k)

-- the windows "when its window is [e - p, e) and the others keep theirs"
abbrev pub fixed_up_to : Windows → ℕ → ℕ → Windows
fixed_up_to w k e = with_window w k (e - w.p k) e

-- the same windows with other minutes needed: in a running day, those left
abbrev pub with_left : Windows → (ℕ → ℕ) → Windows
with_left w p = record { h = w.h; n = w.n; r = w.r; d = w.d; p = p }

-- the windows of the rest of the day: an r before minute t counts as t
abbrev pub rest_from : ℕ → Windows → Windows
rest_from t w = with_windows w (λ i. max (w.r i) t) w.d
