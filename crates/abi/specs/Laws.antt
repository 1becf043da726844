-- What the numbers of an answer say, and what a refusal leaves, in facts: `answer_laws` of proofs/AnswerLaws.antt, of all that the
-- contracts of the calls allow.
use Rattle.std.specs.Prelude.{ℕ, ◌+◌, ◌<◌, ◌≡◌, true, false, List, [], ◌∷◌, length, get_or, take}
use Rattle.base.specs.Outcomes.{Code, Outcome, answered, refused}
use Rattle.list.specs.DayLists.{whole_in}
use Rattle.list.specs.declared.types.Entry.{Entry}
use Rattle.list.specs.declared.types.DayList.{DayList}
use Rattle.windows.specs.Windows.{Windows}
use Rattle.windows.specs.Plans.{places_in}
use Rattle.windows.specs.Intervals.{overload_of}
use Rattle.jackson.specs.Minutes.{schedule}
use Rattle.jackson.specs.Calls.{test_of}
use Rattle.narrow.specs.Rounds.{Narrowed}
use Rattle.bounds.specs.Ends.{least_end, greatest_start}
use Rattle.bounds.specs.ShownPlans.{bound_of}
use Rattle.backtracking.specs.Searches.{Search, found, none, spent}
use Rattle.planner.specs.BrokenEntries.{broken_in}
use Rattle.report.specs.Calls.{store_of}
use Rattle.rooms.specs.Turns.{Lent, Turn, took, none_unfinished}
use Rattle.commits.specs.Days.{with_entry, next_stamp}
use Rattle.commits.specs.declared.types.StampedDay.{StampedDay}
use Rattle.flat.specs.Flat.{list_in}
use Rattle.flat.specs.DayRows.{day_in}
use Rattle.abi.specs.Calls.{TakenCall, WrittenCall, OverloadCall, FilledCall, NarrowCall, PlannedCall, ShownCall, TextCall}
use Rattle.abi.specs.DayCalls.{MadeCall, CommittedCall}
use Rattle.abi.specs.RoomCalls.{TurnedCall}
use Rattle.abi.specs.SearchCalls.{SearchedCall}
use Rattle.bounds.specs.declared.types.Shown.{Shown}
use Rattle.abi.specs.declared.Answer.{Answer}

-- an answer with this number and these three values
abbrev pub answer_numbers : ℕ → ℕ → ℕ → ℕ → Answer
answer_numbers number x y z = record { number = number; values = x ∷ y ∷ z ∷ [] }

-- an answer that tells a refusal: its number and the values that it carries, then 0 up to three
abbrev pub refusal_told : Code → Answer
refusal_told k = answer_numbers k.number (get_or k.carries 0 0) (get_or k.carries 1 0) (get_or k.carries 2 0)

pub record AnswerLaws : Type 0 where
  -- reading a list: three zeros beside a success
  pub read : (o : Outcome DayList) (old : List ℕ) (a : Answer) (fields : List ℕ) → TakenCall o old a fields
      → (l : DayList) → o ≡ answered l → a ≡ answer_numbers 0 0 0 0
  -- "A refusal writes nothing to any lent buffer.", and so below
  pub unread : (o : Outcome DayList) (old : List ℕ) (a : Answer) (fields : List ℕ) → TakenCall o old a fields
      → (k : Code) → o ≡ refused k → (a ≡ refusal_told k) × (fields ≡ old)
  -- writing a list: how many bytes first
  pub written : (l : DayList) (o : Outcome ℕ) (old : List ℕ) (a : Answer) (out : List ℕ) → WrittenCall l o old a out
      → (n : ℕ) → o ≡ answered n → a ≡ answer_numbers 0 n 0 0
  pub unwritten : (l : DayList) (o : Outcome ℕ) (old : List ℕ) (a : Answer) (out : List ℕ) → WrittenCall l o old a out
      → (k : Code) → o ≡ refused k → (a ≡ refusal_told k) × (out ≡ old)
  -- texts likewise
  pub text : (o : Outcome (List ℕ)) (old : List ℕ) (a : Answer) (out : List ℕ) → TextCall o old a out
      → (n : ℕ) → store_of o (length old) ≡ answered n → a ≡ answer_numbers 0 n 0 0
  pub no_text : (o : Outcome (List ℕ)) (old : List ℕ) (a : Answer) (out : List ℕ) → TextCall o old a out
      → (k : Code) → store_of o (length old) ≡ refused k → (a ≡ refusal_told k) × (out ≡ old)
  -- the overload test
  pub tested : (xs : List ℕ) (a : Answer) → OverloadCall xs a → (l : DayList) → list_in xs ≡ answered l → test_of l ≡ answered tt
      → a ≡ answer_numbers 0 0 0 0
  pub overloaded : (xs : List ℕ) (a : Answer) → OverloadCall xs a → (l : DayList) → list_in xs ≡ answered l
      → (k : Code) → test_of l ≡ refused k → a ≡ refusal_told k
  -- filling a plan buffer
  pub filled : (l : DayList) (o : Outcome (Unit {0})) (old : List ℕ) (a : Answer) (plan : List ℕ) → FilledCall l o old a plan
      → o ≡ answered tt → a ≡ answer_numbers 0 0 0 0
  pub unfilled : (l : DayList) (o : Outcome (Unit {0})) (old : List ℕ) (a : Answer) (plan : List ℕ) → FilledCall l o old a plan
      → (k : Code) → o ≡ refused k → (a ≡ refusal_told k) × (plan ≡ old)
  -- narrowing, and what calls it: the moves first
  pub narrowed : (o : Outcome (DayList × ℕ)) (second third : ℕ) (old : List ℕ) (a : Answer) (fields : List ℕ)
      → NarrowCall o second third old a fields → (x : DayList × ℕ) → o ≡ answered x → a ≡ answer_numbers 0 x.1 second third
  pub unnarrowed : (o : Outcome (DayList × ℕ)) (second third : ℕ) (old : List ℕ) (a : Answer) (fields : List ℕ)
      → NarrowCall o second third old a fields → (k : Code) → o ≡ refused k → (a ≡ refusal_told k) × (fields ≡ old)
  -- planning: the moves, then `broken`; least ends from place 0 of the bounds on, greatest starts from place 64 on
  pub planned : (l : DayList) (o : Outcome Narrowed) (third : ℕ) (p f b : List ℕ) (a : Answer) (plan fields bounds : List ℕ)
      → PlannedCall l o third p f b a plan fields bounds → (v : Narrowed) → o ≡ answered v
      → a ≡ answer_numbers 0 v.moves (broken_in (whole_in l) v.windows (places_in (schedule v.windows))) third
  pub ends : (l : DayList) (o : Outcome Narrowed) (third : ℕ) (p f b : List ℕ) (a : Answer) (plan fields bounds : List ℕ)
      → PlannedCall l o third p f b a plan fields bounds → (v : Narrowed) → o ≡ answered v
      → (i : ℕ) → i < 64 → i < v.windows.n → get_or bounds i 0 ≡ least_end overload_of (whole_in l) v.windows i
  pub starts : (l : DayList) (o : Outcome Narrowed) (third : ℕ) (p f b : List ℕ) (a : Answer) (plan fields bounds : List ℕ)
      → PlannedCall l o third p f b a plan fields bounds → (v : Narrowed) → o ≡ answered v
      → (i : ℕ) → i < 64 → i < v.windows.n → get_or bounds (64 + i) 0 ≡ greatest_start overload_of (whole_in l) v.windows i
  pub unplanned : (l : DayList) (o : Outcome Narrowed) (third : ℕ) (p f b : List ℕ) (a : Answer) (plan fields bounds : List ℕ)
      → PlannedCall l o third p f b a plan fields bounds → (k : Code) → o ≡ refused k
      → (a ≡ refusal_told k) × (plan ≡ p) × (fields ≡ f) × (bounds ≡ b)
  -- showing a plan: the moves, then the bound
  pub shown : (x : Shown) (l : DayList) (i : ℕ) (o : Outcome Narrowed) (p f : List ℕ) (a : Answer) (plan fields : List ℕ)
      → ShownCall x l i o p f a plan fields → (v : Narrowed) → o ≡ answered v
      → a ≡ answer_numbers 0 v.moves (bound_of x (whole_in l) i v.windows) 0
  pub unshown : (x : Shown) (l : DayList) (i : ℕ) (o : Outcome Narrowed) (p f : List ℕ) (a : Answer) (plan fields : List ℕ)
      → ShownCall x l i o p f a plan fields → (k : Code) → o ≡ refused k → (a ≡ refusal_told k) × (plan ≡ p) × (fields ≡ f)
  -- looking for an unbroken day: the moves, how it ended and the trials; 1 found, 2 none exists, 3 all trials spent. Its starts are those
  -- that are fixed
  pub day_found : (l : DayList) (o : Outcome Narrowed) (x : Outcome Search) (p f s : List ℕ) (a : Answer) (plan fields starts : List ℕ)
      → SearchedCall l o x p f s a plan fields starts → (v : Narrowed) → o ≡ answered v → (u : Windows) (t : ℕ) → x ≡ answered (found u t)
      → (a ≡ answer_numbers 0 v.moves 1 t) × (take u.h plan ≡ schedule u)
  pub whole_start : (l : DayList) (o : Outcome Narrowed) (x : Outcome Search) (p f s : List ℕ) (a : Answer) (plan fields starts : List ℕ)
      → SearchedCall l o x p f s a plan fields starts → (u : Windows) (t : ℕ) → x ≡ answered (found u t)
      → (i : ℕ) → i < 64 → i < u.n → whole_in l i ≡ true → get_or starts i 0 ≡ u.r i
  pub pause_start : (l : DayList) (o : Outcome Narrowed) (x : Outcome Search) (p f s : List ℕ) (a : Answer) (plan fields starts : List ℕ)
      → SearchedCall l o x p f s a plan fields starts → (u : Windows) (t : ℕ) → x ≡ answered (found u t)
      → (i : ℕ) → i < 64 → whole_in l i ≡ false → get_or starts i 0 ≡ 0
  pub none_exists : (l : DayList) (o : Outcome Narrowed) (x : Outcome Search) (p f s : List ℕ) (a : Answer) (plan fields starts : List ℕ)
      → SearchedCall l o x p f s a plan fields starts → (v : Narrowed) → o ≡ answered v → (t : ℕ) → x ≡ answered (none t)
      → (a ≡ answer_numbers 0 v.moves 2 t) × (plan ≡ p) × (starts ≡ s)
  pub trials_spent : (l : DayList) (o : Outcome Narrowed) (x : Outcome Search) (p f s : List ℕ) (a : Answer) (plan fields starts : List ℕ)
      → SearchedCall l o x p f s a plan fields starts → (v : Narrowed) → o ≡ answered v → (t : ℕ) → x ≡ answered (spent t)
      → (a ≡ answer_numbers 0 v.moves 3 t) × (plan ≡ p) × (starts ≡ s)
  pub unsearched : (l : DayList) (o : Outcome Narrowed) (x : Outcome Search) (p f s : List ℕ) (a : Answer) (plan fields starts : List ℕ)
      → SearchedCall l o x p f s a plan fields starts → (k : Code) → o ≡ refused k → x ≡ refused k
      → (a ≡ refusal_told k) × (plan ≡ p) × (fields ≡ f) × (starts ≡ s)
  -- a day's row: it says the day made or committed, and is kept beside a refusal. Of an ask and a commit the answer and the other buffers
  -- are said above, of their field `planned`
  pub made : (o : Outcome StampedDay) (old : List ℕ) (a : Answer) (new : List ℕ) → MadeCall o old a new
      → (d : StampedDay) → o ≡ answered d → (a ≡ answer_numbers 0 0 0 0) × (day_in new ≡ answered d)
  pub not_made : (o : Outcome StampedDay) (old : List ℕ) (a : Answer) (new : List ℕ) → MadeCall o old a new
      → (k : Code) → o ≡ refused k → (a ≡ refusal_told k) × (new ≡ old)
  pub committed : (d : StampedDay) (e : Entry) (o : Outcome Narrowed) (w p f b : List ℕ) (a : Answer) (day plan fields bounds : List ℕ)
      → CommittedCall d e o w p f b a day plan fields bounds → (v : Narrowed) → o ≡ answered v
      → day_in day ≡ answered (record { list = with_entry d.list e; stamp = next_stamp d.stamp })
  pub not_committed : (d : StampedDay) (e : Entry) (o : Outcome Narrowed) (w p f b : List ℕ) (a : Answer) (day plan fields bounds : List ℕ)
      → CommittedCall d e o w p f b a day plan fields bounds → (k : Code) → o ≡ refused k → day ≡ w
  -- a turn: "that room, any refusal, and the number after it"; the number of rooms where nothing is unfinished
  pub turned : (x : Lent) (o : Outcome Turn) (xs c : List ℕ) (a : Answer) (rooms lists carried : List ℕ)
      → TurnedCall x o xs c a rooms lists carried → (i next : ℕ) → o ≡ answered (took i (answered tt) next)
      → (a ≡ answer_numbers 0 i 0 next) × (carried ≡ 0 ∷ 0 ∷ 0 ∷ [])
  pub stopped : (x : Lent) (o : Outcome Turn) (xs c : List ℕ) (a : Answer) (rooms lists carried : List ℕ)
      → TurnedCall x o xs c a rooms lists carried → (i : ℕ) (k : Code) (next : ℕ) → o ≡ answered (took i (refused k) next)
      → (a ≡ answer_numbers 0 i k.number next) × (carried ≡ (refusal_told k).values)
  pub nothing : (x : Lent) (o : Outcome Turn) (xs c : List ℕ) (a : Answer) (rooms lists carried : List ℕ)
      → TurnedCall x o xs c a rooms lists carried → (used : ℕ) → o ≡ answered (none_unfinished used)
      → (a ≡ answer_numbers 0 (length x.rows) 0 used) × (rooms ≡ xs) × (lists ≡ x.lists) × (carried ≡ c)
  pub not_turned : (x : Lent) (o : Outcome Turn) (xs c : List ℕ) (a : Answer) (rooms lists carried : List ℕ)
      → TurnedCall x o xs c a rooms lists carried → (k : Code) → o ≡ refused k
      → (a ≡ refusal_told k) × (rooms ≡ xs) × (lists ≡ x.lists) × (carried ≡ c)
