-- What the rows of an ask and of a commit say, in facts, for every day, whether a call made it or not.
use Rattle.std.specs.Prelude.{ℕ, ◌+◌, ◌<◌, ◌≤◌, ◌≡◌, true, List, [], ◌∷◌, ◌++◌, length, Result, Ok, Err}
use Rattle.base.specs.Outcomes.{Code, code, answered, refused, row, first_of, and_then, accepts}
use Rattle.list.specs.DayLists.{most_entries, entries_of, SameList}
use Rattle.list.specs.Refusals.{outcome_of}
use Rattle.list.specs.Entries.{entry_fault}
use Rattle.list.specs.Clashes.{clashes_earlier}
use Rattle.list.specs.Checks.{check_of, WellFormed}
use Rattle.list.specs.declared.types.Entry.{Entry}
use Rattle.list.specs.declared.types.DayList.{DayList}
use Rattle.list.specs.declared.types.Refusal.{Refusal}
use Rattle.planner.specs.Calls.{plan_of, planning}
use Rattle.commits.specs.Days.{with_entry}
use Rattle.commits.specs.Calls.{ask_of, commit_of, Succeeds}
use Rattle.commits.specs.declared.types.StampedDay.{StampedDay}
use Rattle.commits.specs.declared.types.AskAnswer.{AskAnswer}
use Rattle.commits.specs.declared.types.CommitAnswer.{CommitAnswer}

-- `stamp_law` of proofs/StampLaws.antt: every day, entry, stamp handed in and length of the plan buffer
pub record StampLaw (d : StampedDay) (e : Entry) (s room : ℕ) : Type 0 where
  -- "A stamp that is not the day's is refused as 17 before all else"
  pub stale : (s ≡ d.stamp → ⊥) → commit_of d e s room ≡ refused (code 17 (d.stamp ∷ []))
  -- a commit with the day's stamp has the outcome of an ask
  pub as_asked : s ≡ d.stamp → commit_of d e s room ≡ ask_of d e room
  -- "and a day of 64 entries or more as 18 ..., for an ask first of all"
  pub full : most_entries ≤ d.list.n → ask_of d e room ≡ refused (code 18 (d.stamp ∷ []))
  -- "The longer list's other refusals follow as document 01 orders them."
  pub longer : d.list.n < most_entries → ask_of d e room ≡ plan_of (with_entry d.list e) room

-- `fresh_law` of proofs/FreshLaws.antt: what making a fresh day of the list l answers, which has an entry at each place of its array
pub record FreshLaw (l : DayList) (a : Result StampedDay Refusal) : Type 0 where
  -- "A fresh day is made from a list that can be planned": an equal list, and no commit yet
  pub made : accepts (planning l) ≡ true → (d : StampedDay) × (a ≡ Ok d) × SameList d.list l × (d.stamp ≡ 0)
  -- "else that list's refusal is given"
  pub turned_back : (k : Code) → planning l ≡ refused k → outcome_of a ≡ refused k

-- `ask_law` of proofs/CommitLaws.antt: what an ask on the day d answers, and leaves in a plan buffer that held old
pub record AskLaw (d : StampedDay) (old : List ℕ) (a : AskAnswer) (new : List ℕ) : Type 0 where
  pub stays : (x : Refusal) → a.planned ≡ Err x → new ≡ old
  pub stamp : a.stamp ≡ d.stamp

-- `commit_law` of proofs/CommitLaws.antt: what a commit of the entry e to the day d answers, and leaves in a plan buffer that held old
pub record CommitLaw (d : StampedDay) (e : Entry) (old : List ℕ) (a : CommitAnswer) (new : List ℕ) : Type 0 where
  -- a refusal leaves the day and the buffer as they were, and answers the day's stamp
  pub stays : (x : Refusal) → a.planned ≡ Err x → (a.day ≡ d) × (new ≡ old) × (a.stamp ≡ d.stamp)
  -- "appends the entry exactly when that gives a plan, which is its success": as it was given
  pub frame : Succeeds a.planned → a.day.list.frame ≡ d.list.frame
  pub entries : Succeeds a.planned → entries_of a.day.list ≡ entries_of d.list ++ (e ∷ [])
  -- "it answers the stamp the day then has", "the number of successful commits so far (at 65,535, never reached from fresh, it stays)"
  pub counts : Succeeds a.planned → d.stamp < 65535 → a.stamp ≡ d.stamp + 1
  pub largest : Succeeds a.planned → d.stamp ≡ 65535 → a.stamp ≡ 65535
  pub stamp : a.stamp ≡ a.day.stamp

-- `entry_law` of proofs/EntryLaws.antt: where the list is well-formed and has room, the value check of the longer list tests the new entry
-- alone, at place n: rows 16, 6 and 7, then 14
abbrev pub EntryLaw : DayList → Entry → Type 0
EntryLaw l e =
    let n = length (entries_of l) in
    WellFormed l → n < most_entries
    → check_of (with_entry l e)
    ≡ and_then (entry_fault l.frame n e) (λ _. first_of (row 14 (clashes_earlier (entries_of l ++ (e ∷ [])) n) n ∷ []) (answered tt))
