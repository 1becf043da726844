-- What the value check says, in facts, for every list: all rows, and those of the opening minute and of entries that clash.
use Rattle.std.specs.Prelude.{ℕ, ◌+◌, ◌<◌, ◌≤◌, ◌≡◌, ◌↔◌, ◌⊎◌, [], ◌∷◌, length, get_or}
use Rattle.base.specs.Outcomes.{Code, code, answered, refused}
use Rattle.list.specs.DayLists.{entries_of, blank, always_open}
use Rattle.list.specs.Clashes.{Apart, FirstClash}
use Rattle.list.specs.Checks.{values_fault, check_of, WellFormed}
use Rattle.list.specs.declared.types.Entry.{Entry}
use Rattle.list.specs.declared.types.Frame.{Frame}
use Rattle.list.specs.declared.types.DayList.{DayList}

-- what rows 2 and 3 leave: "day length H in minutes (.. 1 to 1,440), number of entries n (.. 0 to 64)"
pub record Header (h n : ℕ) : Type 0 where
  pub some_minutes : 1 ≤ h
  pub one_day : h ≤ 1440
  pub room : n ≤ 64

-- what row 15 leaves: the room opens before the day is over
abbrev pub OpensIn : Frame → Type 0
OpensIn f = f.opening < f.h

-- what rows 16, 6 and 7 leave of an entry: "minutes needed p .. at least 1", "A window [r, d) lies in 0 to H and holds at least p minutes."
pub record Sound (f : Frame) (e : Entry) : Type 0 where
  pub opened : f.opening ≤ e.r
  pub some_minutes : 1 ≤ e.p
  pub in_day : e.d ≤ f.h
  pub room : e.r + e.p ≤ e.d

-- the first of the rows 16, 6 and 7 that holds of an entry
pub data FirstRow (f : Frame) (e : Entry) : ℕ → Type 0 where
  sixteen : e.r < f.opening → FirstRow f e 16
  six : f.opening ≤ e.r → e.p ≡ 0 → FirstRow f e 6
  past_day : f.opening ≤ e.r → 1 ≤ e.p → f.h < e.d → FirstRow f e 7
  too_short : f.opening ≤ e.r → 1 ≤ e.p → e.d < e.r + e.p → FirstRow f e 7

-- the first i entries are sound
abbrev pub SoundBelow : ℕ → DayList → Type 0
SoundBelow i l = (j : ℕ) → j < i → Sound l.frame (get_or (entries_of l) j blank)

-- what all rows but 14 leave
pub record SoundValues (l : DayList) : Type 0 where
  pub header : Header l.frame.h l.n
  pub opening : OpensIn l.frame
  pub entries : SoundBelow (length (entries_of l)) l

-- `check_law` of proofs/CheckLaws.antt: "Rows are tested in this order, entry by entry ..; the first that holds is given, none otherwise.",
-- each row with its number and what it carries, said of the values alone
pub record CheckLaw (l : DayList) : Type 0 where
  pub none : WellFormed l ↔ SoundValues l × Apart (entries_of l)
  pub two : (l.frame.h ≡ 0) ⊎ (1440 < l.frame.h) → check_of l ≡ refused (code 2 (0 ∷ []))
  pub three : 1 ≤ l.frame.h → l.frame.h ≤ 1440 → 64 < l.n → check_of l ≡ refused (code 3 (0 ∷ []))
  pub fifteen : Header l.frame.h l.n → l.frame.h ≤ l.frame.opening → check_of l ≡ refused (code 15 (0 ∷ []))
  pub entry : Header l.frame.h l.n → OpensIn l.frame → (i : ℕ) → i < length (entries_of l) → SoundBelow i l
      → (k : ℕ) → FirstRow l.frame (get_or (entries_of l) i blank) k → check_of l ≡ refused (code k (i ∷ []))
  pub fourteen : SoundValues l → (i : ℕ) → FirstClash (entries_of l) i → check_of l ≡ refused (code 14 (i ∷ []))

-- the room opens before the day is over, and no entry comes before it opens
pub record OpensInTime (l : DayList) : Type 0 where
  pub in_day : l.frame.opening < l.frame.h
  pub entries : (i : ℕ) → i < length (entries_of l) → l.frame.opening ≤ (get_or (entries_of l) i blank).r

-- `opening_law` of proofs/OpeningLaws.antt: of an opening minute, beside what `CheckLaw` says
pub record OpeningLaw (l : DayList) : Type 0 where
  -- it decides this and nothing else: without it the list is well-formed as well
  pub accepted : WellFormed l ↔ WellFormed (always_open l) × OpensInTime l
  -- 15 is given for no minute before H, and 16 for no r from the opening minute on
  pub fifteen : (at : ℕ) → check_of l ≡ refused (code 15 (at ∷ [])) → l.frame.h ≤ l.frame.opening
  pub sixteen : (i : ℕ) → check_of l ≡ refused (code 16 (i ∷ []))
      → (i < length (entries_of l)) × ((get_or (entries_of l) i blank).r < l.frame.opening)

-- `clash_law` of proofs/ClashLaws.antt
pub record ClashLaw (l : DayList) : Type 0 where
  -- rows 2, 3, 15, 16, 6 and 7 come first
  pub before : (k : Code) → values_fault l ≡ refused k → check_of l ≡ refused k
  -- a well-formed list has no two entries of one serial that share a minute
  pub accepted : WellFormed l → Apart (entries_of l)
  -- a list refused by 14 has, at the place carried, and no earlier entry does
  pub clashing : (k : ℕ) → check_of l ≡ refused (code 14 (k ∷ [])) → (values_fault l ≡ answered tt) × FirstClash (entries_of l) k
  -- of the lists that pass the rows before 14, those that have are refused so, and all others pass
  pub refuses : (k : ℕ) → values_fault l ≡ answered tt → FirstClash (entries_of l) k → check_of l ≡ refused (code 14 (k ∷ []))
  pub passes : values_fault l ≡ answered tt → Apart (entries_of l) → WellFormed l
