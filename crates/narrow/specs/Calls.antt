-- Narrowing a list: what the calls answer.
use Rattle.std.specs.Prelude.{ℕ, ◌+◌, ◌≡◌, Bool, List, [], ◌∷◌, map, get_or, None, Result, Ok, Err}
use Rattle.base.specs.Outcomes.{Code, Outcome, answered, refused, and_then}
use Rattle.list.specs.Refusals.{code_of}
use Rattle.list.specs.DayLists.{entries_of, blank, day_list, whole_in, SameBox}
use Rattle.list.specs.Checks.{check_of, WellFormed}
use Rattle.list.specs.declared.types.Entry.{Entry}
use Rattle.list.specs.declared.types.DayList.{DayList}
use Rattle.list.specs.declared.types.Refusal.{Refusal}
use Rattle.windows.specs.Windows.{Windows, windows_of, windows_in, room_fault, Formed}
use Rattle.windows.specs.declared.types.WindowSet.{WindowSet}
use Rattle.windows.specs.Intervals.{overload_of}
use Rattle.narrow.specs.Rounds.{Narrowed, unmoved, round, narrowing}
use Rattle.narrow.specs.Laws.{RoundLaw, NarrowLaw}
use Rattle.narrow.specs.declared.types.NarrowedWindows.{NarrowedWindows}
use Rattle.narrow.specs.declared.types.NarrowedList.{NarrowedList}

-- an entry without its serial and seal
abbrev pub bare : Entry → Entry
bare e = record { serial = 0; seal = None; r = e.r; d = e.d; p = e.p; kind = e.kind }

-- two lists with the same H and n, and of each entry the same r, d, p and kind: opening minutes, serials and seals are not compared
pub record SameTimes (a b : DayList) : Type 0 where
  pub h : a.frame.h ≡ b.frame.h
  pub n : a.n ≡ b.n
  pub entries : map bare (entries_of a) ≡ map bare (entries_of b)

-- an entry with another window
abbrev pub entry_with : Entry → ℕ → ℕ → Entry
entry_with e r d = record { serial = e.serial; seal = e.seal; r = r; d = d; p = e.p; kind = e.kind }

-- entries with the windows of w, the first at place i
unfoldable pub entries_with : Windows → ℕ → List Entry → List Entry
entries_with w i [] = []
entries_with w i (e ∷ es) = entry_with e (w.r i) (w.d i) ∷ entries_with w (i + 1) es

-- the list with the windows of w
unfoldable pub list_with : DayList → Windows → DayList
list_with l w = day_list l.frame (entries_with w 0 (entries_of l))

-- Narrowing windows, where `whole` says which entries are whole: rows 6 and 7 for windows without room, row 9, then rounds and row 10.
unfoldable pub narrow_windows : (ℕ → Bool) → Windows → Outcome Narrowed
narrow_windows whole w = and_then (room_fault w) (λ _. narrowing overload_of whole w)

-- windows and moves, as the rules have them, and an answer with them
abbrev pub narrowed_by : NarrowedWindows → Narrowed
narrowed_by v = record { windows = windows_in v.windows; moves = v.moves }

abbrev pub narrowed_of : Result NarrowedWindows Refusal → Outcome Narrowed
narrowed_of (Ok v) = answered (narrowed_by v)
narrowed_of (Err x) = refused (code_of x)

-- what `narrow_windows` answers of the windows s
pub record NarrowsWindows (whole : ℕ → Bool) (s : WindowSet) (a : Result NarrowedWindows Refusal) : Type 0 where
  pub outcome : narrowed_of a ≡ narrow_windows whole (windows_in s)
  pub n : (v : NarrowedWindows) → a ≡ Ok v → v.windows.n ≡ s.n
  -- the law, for windows with room, of the windows and moves answered
  pub law : Formed (windows_in s) → NarrowLaw overload_of whole (windows_in s) (narrowed_of a)

-- narrowing a list: the value check, row 9, then rounds and row 10
unfoldable pub settle_of : DayList → Outcome Narrowed
settle_of l = and_then (check_of l) (λ _. narrowing overload_of (whole_in l) (windows_of l))

-- one round: the value check, then the round and row 10. Row 9 is not tested: the windows may have no plan.
unfoldable pub round_of : DayList → Outcome Narrowed
round_of l = and_then (check_of l) (λ _. round overload_of (whole_in l) (unmoved (windows_of l)))

-- the same in facts: the value check comes first. `checked_law` of proofs/ListRows.antt
pub record CheckedLaw (l : DayList) : Type 0 where
  pub settle_before : (k : Code) → check_of l ≡ refused k → settle_of l ≡ refused k
  pub settle_then : WellFormed l → settle_of l ≡ narrowing overload_of (whole_in l) (windows_of l)
  pub round_before : (k : Code) → check_of l ≡ refused k → round_of l ≡ refused k
  pub round_then : WellFormed l → round_of l ≡ round overload_of (whole_in l) (unmoved (windows_of l))

-- the list with the windows answered, and the moves
abbrev pub listed : DayList → Outcome Narrowed → Outcome (DayList × ℕ)
listed l o = and_then o (λ v. answered (list_with l v.windows, v.moves))

-- an answer with a list
abbrev pub narrow_answer_of : Result NarrowedList Refusal → Outcome (DayList × ℕ)
narrow_answer_of (Ok v) = answered (v.list, v.moves)
narrow_answer_of (Err x) = refused (code_of x)

-- the same with the windows of the list answered
abbrev pub narrowed_in : Result NarrowedList Refusal → Outcome Narrowed
narrowed_in (Ok v) = answered (record { windows = windows_of v.list; moves = v.moves })
narrowed_in (Err x) = refused (code_of x)

-- an answer with this outcome of the list l
abbrev pub AnswersAs : DayList → Outcome Narrowed → Result NarrowedList Refusal → Type 0
AnswersAs l o a = narrow_answer_of a ≡ listed l o

-- a list b with H, the opening minute and the boxes of l: "it travels inside its entry"; b passes the value check itself
pub record KeepsBoxes (l b : DayList) : Type 0 where
  pub frame : b.frame ≡ l.frame
  pub boxes : (i : ℕ) → SameBox (get_or (entries_of b) i blank) (get_or (entries_of l) i blank)
  pub kinds : whole_in b ≡ whole_in l
  pub formed : WellFormed b

-- beside that: the list answered has the windows of the outcome, and the boxes of l
pub record HoldsAnswer (l : DayList) (o : Outcome Narrowed) (a : Result NarrowedList Refusal) : Type 0 where
  pub narrowed : narrowed_in a ≡ o
  pub keeps : (v : NarrowedList) → a ≡ Ok v → KeepsBoxes l v.list

-- what `settle` answers of the list l
pub record Settles (l : DayList) (a : Result NarrowedList Refusal) : Type 0 where
  pub answers : AnswersAs l (settle_of l) a
  pub holds : HoldsAnswer l (settle_of l) a
  -- the law, for a list that passes the value check, of the windows and moves answered
  pub law : WellFormed l → NarrowLaw overload_of (whole_in l) (windows_of l) (narrowed_in a)

-- what `make_round` answers of the list l
pub record MakesRound (l : DayList) (a : Result NarrowedList Refusal) : Type 0 where
  pub answers : AnswersAs l (round_of l) a
  pub holds : HoldsAnswer l (round_of l) a
  pub law : WellFormed l → RoundLaw (whole_in l) (windows_of l) (narrowed_in a)
