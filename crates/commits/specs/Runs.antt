-- "We want one statement over every list of asks and commits from a fresh day."
use Rattle.std.specs.Prelude.{ℕ, ◌+◌, ◌≤◌, ◌≡◌, true, List, [], ◌∷◌, ◌++◌, length, Err, Ok, Result}
use Rattle.base.specs.Outcomes.{code, refused, accepts}
use Rattle.list.specs.DayLists.{most_entries, entries_of, day_list}
use Rattle.list.specs.Refusals.{outcome_of}
use Rattle.list.specs.Checks.{WellFormed}
use Rattle.list.specs.declared.types.Entry.{Entry}
use Rattle.list.specs.declared.types.DayList.{DayList}
use Rattle.list.specs.declared.types.Refusal.{Refusal}
use Rattle.planner.specs.Calls.{planning}
use Rattle.planner.specs.declared.types.PlannedDay.{PlannedDay}
use Rattle.commits.specs.Calls.{MakesDay, Succeeds, Asks, Commits}
use Rattle.commits.specs.declared.types.StampedDay.{StampedDay}
use Rattle.commits.specs.declared.types.AskAnswer.{AskAnswer}
use Rattle.commits.specs.declared.types.CommitAnswer.{CommitAnswer}

-- an event: an ask or a commit, with the entry, for a commit the stamp handed in, what its plan buffer held, what the call answered, and
-- what the buffer held then
pub data Event : Type 0 where
  asked : Entry → List ℕ → AskAnswer → List ℕ → Event
  committed : Entry → ℕ → List ℕ → CommitAnswer → List ℕ → Event

-- the events happen one after the other on the day d, each as its call's contract says, refused or not, and leave the last day: an ask
-- hands on the day it was given, a commit the day that it answers
pub data Happens : StampedDay → List Event → StampedDay → Type 0 where
  none : {d : StampedDay} → Happens d [] d
  ask : {d last : StampedDay} {e : Entry} {old new : List ℕ} {a : AskAnswer} {es : List Event}
      → Asks d e old a new → Happens d es last → Happens d (asked e old a new ∷ es) last
  commit : {d last : StampedDay} {e : Entry} {s : ℕ} {old new : List ℕ} {a : CommitAnswer} {es : List Event}
      → Commits d e s old a new → Happens a.day es last → Happens d (committed e s old a new ∷ es) last

-- one event on the day d, and the day that it hands on
abbrev pub HandsOn : StampedDay → Event → StampedDay → Type 0
HandsOn d (asked e old a new) last = Asks d e old a new × (last ≡ d)
HandsOn d (committed e s old a new) last = Commits d e s old a new × (last ≡ a.day)

-- the entry, if the answer is a success
abbrev pub entry_if : Result PlannedDay Refusal → Entry → List Entry
entry_if (Ok p) e = e ∷ []
entry_if (Err x) e = []

-- "the entries committed with success, in order"
unfoldable pub committed_in : List Event → List Entry
committed_in [] = []
committed_in (asked e old a new ∷ es) = committed_in es
committed_in (committed e s old a new ∷ es) = entry_if a.planned e ++ committed_in es

-- the events without the asks
unfoldable pub commits_in : List Event → List Event
commits_in [] = []
commits_in (asked e old a new ∷ es) = commits_in es
commits_in (committed e s old a new ∷ es) = committed e s old a new ∷ commits_in es

-- The one statement, of the day that these events left from the fresh day of the list l. As it holds of every list of events, it holds of
-- the day at each of them (`at_each`).
pub record RunLaw (l : DayList) (fresh : StampedDay) (es : List Event) (d : StampedDay) : Type 0 where
  -- "the list is the first one followed by the entries committed with success, in order"
  pub list : d.list ≡ day_list l.frame (entries_of l ++ committed_in es)
  -- "a stamp, the number of successful commits so far"
  pub stamp : d.stamp ≡ length (committed_in es)
  -- "asks leave the day as it was": without them the commits answer the same and leave the same day
  pub asks_leave : Happens fresh (commits_in es) d
  -- "what a commit with the day's stamp answers is, the stamp aside, what an ask would have answered there", in the plan buffer too
  pub as_asked : (e : Entry) (old : List ℕ) (c : CommitAnswer) (left : List ℕ) (a : AskAnswer) (new : List ℕ)
      → Commits d e d.stamp old c left → Asks d e old a new → (c.planned ≡ a.planned) × (left ≡ new)
  -- asks answer "the stamp" and commits "the stamp the day then has": the number of successes so far, a commit's own among them
  pub asked_stamp : (e : Entry) (old : List ℕ) (a : AskAnswer) (new : List ℕ) → Asks d e old a new → a.stamp ≡ length (committed_in es)
  pub committed_stamp : (e : Entry) (s : ℕ) (old : List ℕ) (a : CommitAnswer) (new : List ℕ) → Commits d e s old a new
      → a.stamp ≡ length (committed_in es ++ entry_if a.planned e)
  -- whatever an ask or a commit answers here, refused or not, the events go on with it; and wherever they are cut in two, the first lead to
  -- a day on which the others happen
  pub goes_on : (x : Event) (last : StampedDay) → HandsOn d x last → Happens fresh (es ++ (x ∷ [])) last
  pub at_each : (before after : List Event) → es ≡ before ++ after → (m : StampedDay) × Happens fresh before m × Happens m after d
  -- so the list is well-formed and can be planned, and at most 64 commits succeed
  pub formed : WellFormed d.list
  pub can_be_planned : accepts (planning d.list) ≡ true
  pub few : length (entries_of l) + length (committed_in es) ≤ most_entries
  -- and of two commits with the stamp that the day has here, where the first succeeds the second gets 17
  pub one_of_two : (e f : Entry) (old now : List ℕ) (a b : CommitAnswer) (new then : List ℕ)
      → Commits d e d.stamp old a new → Succeeds a.planned → Commits a.day f d.stamp now b then
      → outcome_of b.planned ≡ refused (code 17 ((d.stamp + 1) ∷ []))

-- `run_law` of proofs/RunLaws.antt
abbrev pub RunsSo : Type 0
RunsSo =
    (l : DayList) (fresh : StampedDay) → MakesDay l (Ok fresh) → (es : List Event) (d : StampedDay) → Happens fresh es d
    → RunLaw l fresh es d
