-- A list value as a row of numbers.
use Rattle.std.specs.Prelude.{ℕ, zero, suc, ◌+◌, ◌*◌, min, ◌≡◌, not, cond, List, [], ◌∷◌, ◌++◌, length, get_or, eqb}
use Rattle.std.specs.Prelude.{Option, None, Some}
use Rattle.std.specs.Option.{unwrap_or}
use Rattle.base.specs.Outcomes.{Outcome, answered, Row, row, first_of, and_then}
use Rattle.format.specs.Maps.{kind_of}
use Rattle.format.specs.EntryFields.{seal_of}
use Rattle.list.specs.DayLists.{most_entries}
use Rattle.list.specs.declared.types.Kind.{Kind}
use Rattle.list.specs.declared.types.Kind.TheVariants.{Pause, Whole}
use Rattle.list.specs.declared.types.Entry.{Entry}
use Rattle.list.specs.declared.types.DayList.{DayList}

-- how many numbers say a list value: H, n, the opening minute, and seven for each place; and how many its bounds, two for each place
abbrev pub flat_numbers : ℕ
flat_numbers = 451

abbrev pub bound_numbers : ℕ
bound_numbers = 128

-- how many say an entry
abbrev pub entry_numbers : ℕ
entry_numbers = 7

-- whether a seal is a number, and that number (0 where it is missing)
abbrev pub present : Option ℕ → ℕ
present None = 0
present (Some x) = 1

abbrev pub number_of : Option ℕ → ℕ
number_of s = unwrap_or s 0

-- whether an entry is whole
abbrev pub whole_of : Kind → ℕ
whole_of Pause = 0
whole_of Whole = 1

-- serial, whether a seal stands, its number, r, d, p, whether the entry is whole
abbrev pub flat_entry : Entry → List ℕ
flat_entry e = e.serial ∷ present e.seal ∷ number_of e.seal ∷ e.r ∷ e.d ∷ e.p ∷ whole_of e.kind ∷ []

-- entry after entry
unfoldable pub flat_entries : List Entry → List ℕ
flat_entries [] = []
flat_entries (e ∷ es) = flat_entry e ++ flat_entries es

-- a list value as numbers
abbrev pub flat_of : DayList → List ℕ
flat_of l = l.frame.h ∷ l.n ∷ l.frame.opening ∷ flat_entries l.entries

-- the entry whose seven numbers start at a place; a number too large for its field counts as the field's largest, so that the rules
-- turn it back, and any flag but 0 stands
abbrev pub entry_in : List ℕ → ℕ → Entry
entry_in xs at =
    record {
      serial = get_or xs at 0;
      seal = seal_of (not (eqb (get_or xs (at + 1) 0) 0)) (get_or xs (at + 2) 0);
      r = min (get_or xs (at + 3) 0) 65535;
      d = min (get_or xs (at + 4) 0) 65535;
      p = min (get_or xs (at + 5) 0) 65535;
      kind = kind_of (not (eqb (get_or xs (at + 6) 0) 0));
    }

-- k entries from place i on
unfoldable pub entries_in : ℕ → ℕ → List ℕ → List Entry
entries_in zero i xs = []
entries_in (suc k) i xs = entry_in xs (3 + 7 * i) ∷ entries_in k (i + 1) xs

-- the list value that numbers say
abbrev pub value_of : List ℕ → DayList
value_of xs =
    record {
      frame = record { h = min (get_or xs 0 0) 65535; opening = min (get_or xs 2 0) 65535 };
      n = min (get_or xs 1 0) 255;
      entries = entries_in most_entries 0 xs;
    }

-- row 100 for a row that has another length than the one asked for, which it carries
abbrev pub length_row : ℕ → ℕ → Row
length_row asked numbers = row 100 (not (eqb numbers asked)) asked

abbrev pub length_fault : ℕ → ℕ → Outcome (Unit {0})
length_fault asked numbers = first_of (length_row asked numbers ∷ []) (answered tt)

-- a row of another length is no list value
abbrev pub flat_fault : ℕ → Outcome (Unit {0})
flat_fault = length_fault flat_numbers

-- the list value that a row says
abbrev pub list_in : List ℕ → Outcome DayList
list_in xs = and_then (flat_fault (length xs)) (λ _. answered (value_of xs))

-- likewise where a row of the length given is lent beside it: row 100 for xs, then for the lent one
abbrev pub flat_beside : List ℕ → ℕ → Outcome DayList
flat_beside xs lent = and_then (list_in xs) (λ l. and_then (flat_fault lent) (λ _. answered l))

-- what a row that held old holds after a list value was stored in it; one of another length keeps its numbers
abbrev pub flat_after : DayList → List ℕ → List ℕ
flat_after l old = cond (eqb (length old) flat_numbers) (flat_of l) old

-- what `put_flat` leaves in a row that held old; the numbers stored say the list value again
pub record StoresFlat (l : DayList) (old new : List ℕ) : Type 0 where
  pub numbers : new ≡ flat_after l old
  pub back : length old ≡ flat_numbers → list_in new ≡ answered l
