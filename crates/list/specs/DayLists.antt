-- List values: what counts in one, and what stands where nothing counts.
use Rattle.std.specs.Prelude.{ℕ, ◌-◌, ◌≡◌, Bool, true, false, cond, List, [], ◌++◌, map, length, take, replicate, get_or, ltb, None}
use Rattle.base.specs.Counting.{list_of}
use Rattle.list.specs.declared.types.Kind.{Kind}
use Rattle.list.specs.declared.types.Kind.TheVariants.{Pause, Whole}
use Rattle.list.specs.declared.types.Entry.{Entry}
use Rattle.list.specs.declared.types.Frame.{Frame}
use Rattle.list.specs.declared.types.DayList.{DayList}

-- a list's entries at most, which is also the places that a list value has, and the minutes of the longest day
abbrev pub most_entries : ℕ
most_entries = 64

abbrev pub longest_day : ℕ
longest_day = 1440

-- the entries that count: the first n
abbrev pub entries_of : DayList → List Entry
entries_of l = take l.n l.entries

-- what stands at every place from n on in a list that is read from its bytes, narrowed, trimmed or made longer
abbrev pub blank : Entry
blank = record { serial = 0; seal = None; r = 0; d = 0; p = 0; kind = Pause }

-- "the entry is whole (unpausable)"
abbrev pub is_whole : Kind → Bool
is_whole Pause = false
is_whole Whole = true

-- whether the entry at a place of the list is whole
abbrev pub whole_in : DayList → ℕ → Bool
whole_in l i = is_whole (get_or (entries_of l) i blank).kind

-- the places that an array marks
abbrev pub marked : List Bool → ℕ → Bool
marked marks i = get_or marks i false

-- a number for each place below n; from n on 0
abbrev pub by_place : ℕ → (ℕ → ℕ) → List ℕ
by_place n f = list_of most_entries (λ i. cond (ltb i n) (f i) 0)

-- the list value with these entries
abbrev pub day_list : Frame → List Entry → DayList
day_list f es = record { frame = f; n = length es; entries = es ++ replicate (most_entries - length es) blank }

-- the list value with no entry: H 0 and opening minute 0, and a blank entry at each of the 64 places
abbrev pub empty_list : DayList
empty_list = day_list (record { h = 0; opening = 0 }) []

-- the list in a room that is open from minute 0 on
abbrev pub always_open : DayList → DayList
always_open l = record { frame = record { h = l.frame.h; opening = 0 }; n = l.n; entries = l.entries }

-- "Two list values are equal if H, n and the first n entries are." And document 02: "The list value carries and compares that minute", at
-- which the room opens.
pub record SameList (a b : DayList) : Type 0 where
  pub frame : a.frame ≡ b.frame
  pub n : a.n ≡ b.n
  pub entries : entries_of a ≡ entries_of b

-- entries that differ in their windows alone: serial, seal, minutes of work and kind stay
pub record SameBox (e f : Entry) : Type 0 where
  pub serial : e.serial ≡ f.serial
  pub seal : e.seal ≡ f.seal
  pub p : e.p ≡ f.p
  pub kind : e.kind ≡ f.kind

-- what the value check reads of an entry: not its seal and not its kind
abbrev pub checked_fields : Entry → Entry
checked_fields e = record { serial = e.serial; seal = None; r = e.r; d = e.d; p = e.p; kind = Pause }

-- two lists with the same H, opening minute and n, and of each entry the same serial, r, d and p: seals and kinds are not compared
pub record SameSerials (a b : DayList) : Type 0 where
  pub frame : a.frame ≡ b.frame
  pub n : a.n ≡ b.n
  pub entries : map checked_fields (entries_of a) ≡ map checked_fields (entries_of b)
