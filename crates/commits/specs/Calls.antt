-- What the calls on a day answer: "Ask for a late box, then commit it."
use Rattle.std.specs.Prelude.{ℕ, ◌≡◌, not, List, [], ◌∷◌, length, eqb, leb, Result, Ok}
use Rattle.base.specs.Outcomes.{Row, row, Outcome, answered, refused, first_of, and_then}
use Rattle.list.specs.DayLists.{most_entries, empty_list, SameList}
use Rattle.list.specs.Refusals.{outcome_of}
use Rattle.list.specs.declared.types.Entry.{Entry}
use Rattle.list.specs.declared.types.DayList.{DayList}
use Rattle.list.specs.declared.types.Refusal.{Refusal}
use Rattle.narrow.specs.Rounds.{Narrowed}
use Rattle.planner.specs.Calls.{plan_checks, narrow_after, planning, PlansAfter}
use Rattle.planner.specs.declared.types.PlannedDay.{PlannedDay}
use Rattle.commits.specs.Days.{trimmed, with_entry, next_stamp}
use Rattle.commits.specs.declared.types.StampedDay.{StampedDay}
use Rattle.commits.specs.declared.types.AskAnswer.{AskAnswer}
use Rattle.commits.specs.declared.types.CommitAnswer.{CommitAnswer}

-- "A fresh day is made from a list that can be planned, else that list's refusal is given." No plan buffer is lent.
abbrev pub fresh_of : DayList → Outcome StampedDay
fresh_of l = and_then (planning l) (λ _. answered (record { list = trimmed l; stamp = 0 }))

-- the day of the empty list, with the stamp 0
abbrev pub empty_day : StampedDay
empty_day = record { list = empty_list; stamp = 0 }

-- what `fresh_day` answers of the list l
abbrev pub MakesDay : DayList → Result StampedDay Refusal → Type 0
MakesDay l a = outcome_of a ≡ fresh_of l

-- "A stamp that is not the day's is refused as 17 ..., and a day of 64 entries or more as 18 ..; both carry the day's stamp."
abbrev pub stamp_row : StampedDay → ℕ → Row
stamp_row d s = row 17 (not (eqb s d.stamp)) d.stamp

abbrev pub full_row : StampedDay → Row
full_row d = row 18 (leb most_entries d.list.n) d.stamp

-- "17 before all else, and .. 18 straight after it, for an ask first of all"
abbrev pub ask_fault : StampedDay → Outcome (Unit {0})
ask_fault d = first_of (full_row d ∷ []) (answered tt)

abbrev pub commit_fault : StampedDay → ℕ → Outcome (Unit {0})
commit_fault d s = first_of (stamp_row d s ∷ full_row d ∷ []) (answered tt)

-- the checks before 9: rows with this outcome, and then the longer list's, "as document 01 orders them", for a plan buffer of this length
abbrev pub longer_checks : Outcome (Unit {0}) → DayList → Entry → ℕ → Outcome (Unit {0})
longer_checks o l e room = and_then o (λ _. plan_checks (with_entry l e) room)

abbrev pub ask_checks : StampedDay → Entry → ℕ → Outcome (Unit {0})
ask_checks d = longer_checks (ask_fault d) d.list

abbrev pub commit_checks : StampedDay → Entry → ℕ → ℕ → Outcome (Unit {0})
commit_checks d e s = longer_checks (commit_fault d s) d.list e

-- the outcomes: the settled windows of the longer list, or a refusal
abbrev pub ask_of : StampedDay → Entry → ℕ → Outcome Narrowed
ask_of d e room = narrow_after (ask_checks d e room) (with_entry d.list e)

abbrev pub commit_of : StampedDay → Entry → ℕ → ℕ → Outcome Narrowed
commit_of d e s room = narrow_after (commit_checks d e s room) (with_entry d.list e)

-- "appends the entry exactly when that gives a plan, which is its success": the day after a commit with this outcome
abbrev pub day_after : {A : Type 0} → StampedDay → Entry → Outcome A → StampedDay
day_after d e (answered a) = record { list = with_entry d.list e; stamp = next_stamp d.stamp }
day_after d e (refused k) = d

-- an answer with a plan, which is a commit's success
abbrev pub Succeeds : Result PlannedDay Refusal → Type 0
Succeeds a = (p : PlannedDay) × (a ≡ Ok p)

-- two days are equal if their lists are by the documents' rule, and their stamps
pub record SameDay (a b : StampedDay) : Type 0 where
  pub list : SameList a.list b.list
  pub stamp : a.stamp ≡ b.stamp

-- what `ask` answers of the day d and the entry e, and leaves in a plan buffer that held old: "the full planned answer for the longer list,
-- with the stamp"
pub record Asks (d : StampedDay) (e : Entry) (old : List ℕ) (a : AskAnswer) (new : List ℕ) : Type 0 where
  pub plans : PlansAfter (ask_checks d e (length old)) (with_entry d.list e) old a.planned new
  pub stamp : a.stamp ≡ d.stamp

-- what `commit` answers of the day d, the entry e and the stamp s, and leaves in a plan buffer that held old: it "plans again", and
-- "answers the stamp the day then has"
pub record Commits (d : StampedDay) (e : Entry) (s : ℕ) (old : List ℕ) (a : CommitAnswer) (new : List ℕ) : Type 0 where
  pub plans : PlansAfter (commit_checks d e s (length old)) (with_entry d.list e) old a.planned new
  pub day : a.day ≡ day_after d e (commit_of d e s (length old))
  pub stamp : a.stamp ≡ a.day.stamp
