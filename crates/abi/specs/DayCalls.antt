-- What the exported calls on a stamped day answer, as numbers, and what they leave in the lent rows and buffers.
use Rattle.std.specs.Prelude.{ℕ, ◌≡◌, List, [], ◌∷◌, length, get_or}
use Rattle.base.specs.Outcomes.{Outcome, answered, refused, first_of, and_then}
use Rattle.list.specs.declared.types.Entry.{Entry}
use Rattle.narrow.specs.Rounds.{Narrowed}
use Rattle.commits.specs.Days.{with_entry}
use Rattle.commits.specs.Calls.{fresh_of, ask_of, commit_of, day_after}
use Rattle.commits.specs.declared.types.StampedDay.{StampedDay}
use Rattle.flat.specs.Flat.{flat_numbers, entry_numbers, entry_in, length_row, list_in}
use Rattle.flat.specs.DayRows.{day_row, day_of, day_fault, day_in}
use Rattle.abi.specs.Calls.{answer_with, PlannedCall}
use Rattle.abi.specs.declared.Answer.{Answer}

-- a lent day's row after a call: the day that it answers, or what was there
abbrev pub day_row_or : Outcome StampedDay → List ℕ → List ℕ
day_row_or (answered d) old = day_row d
day_row_or (refused k) old = old

-- what a call with the outcome o leaves in a day's row that held old: a row that says the day answered
pub record DayCall (o : Outcome StampedDay) (old new : List ℕ) : Type 0 where
  pub buffer : new ≡ day_row_or o old
  pub back : (d : StampedDay) → o ≡ answered d → day_in new ≡ answered d

-- an answer where making a day has the outcome o, and what it leaves in a day's row that held old
pub record MadeCall (o : Outcome StampedDay) (old : List ℕ) (a : Answer) (new : List ℕ) : Type 0 where
  pub answer : a ≡ answer_with (λ _. []) o
  pub day : DayCall o old new

-- the fresh day of the list value that the row xs says, where a day's row of the length given is lent: row 100 for xs, then for that
abbrev pub fresh_in : List ℕ → ℕ → Outcome StampedDay
fresh_in xs lent = and_then (list_in xs) (λ l. and_then (day_fault lent) (λ _. fresh_of l))

-- what `dock_fresh` answers of the row xs, and leaves in a day's row that held old
abbrev pub FreshCall : List ℕ → List ℕ → Answer → List ℕ → Type 0
FreshCall xs old = MadeCall (fresh_in xs (length old)) old

-- row 100 for the length of an entry's row, then for that of a list's row that is lent
abbrev pub beside_fault : ℕ → ℕ → Outcome (Unit {0})
beside_fault entry lent = first_of (length_row entry_numbers entry ∷ length_row flat_numbers lent ∷ []) (answered tt)

-- the day that the row xs says, where rows of these lengths are given and lent beside it: row 100 for xs, then for those
abbrev pub day_beside : List ℕ → ℕ → ℕ → Outcome StampedDay
day_beside xs entry lent = and_then (day_in xs) (λ d. and_then (beside_fault entry lent) (λ _. answered d))

-- an answer where asking for the entry e on the day d has the outcome o, and what it leaves in what is lent: what planning the longer list
-- answers, with the day's stamp as third value
pub record AskedCall (d : StampedDay) (e : Entry) (o : Outcome Narrowed) (old_plan old_fields old_bounds : List ℕ)
    (a : Answer) (new_plan new_fields new_bounds : List ℕ) : Type 0 where
  pub planned : PlannedCall (with_entry d.list e) o d.stamp old_plan old_fields old_bounds a new_plan new_fields new_bounds
  pub stamp : (v : Narrowed) → o ≡ answered v → get_or a.values 2 0 ≡ d.stamp

-- what `dock_ask` answers of the day's row xs and an entry's row ys, and leaves in what is lent
abbrev pub AskCall : (xs ys old_plan old_fields old_bounds : List ℕ) → Answer → (new_plan new_fields new_bounds : List ℕ) → Type 0
AskCall xs ys old_plan old_fields =
    let e = entry_in ys 0 in
    AskedCall (day_of xs) e (and_then (day_beside xs (length ys) (length old_fields)) (λ d. ask_of d e (length old_plan))) old_plan
    old_fields

-- the day after a commit of the entry e to the day d with the outcome o, if it succeeded
abbrev pub day_if_committed : StampedDay → Entry → Outcome Narrowed → Outcome StampedDay
day_if_committed d e o = and_then o (λ _. answered (day_after d e o))

-- an answer where committing the entry e to the day d has the outcome o, and what it leaves in what is lent: what planning the longer list
-- answers, with the stamp that the day then has, and that day
pub record CommittedCall (d : StampedDay) (e : Entry) (o : Outcome Narrowed) (old_day old_plan old_fields old_bounds : List ℕ)
    (a : Answer) (new_day new_plan new_fields new_bounds : List ℕ) : Type 0 where
  pub planned : PlannedCall (with_entry d.list e) o (day_after d e o).stamp old_plan old_fields old_bounds a new_plan new_fields new_bounds
  pub day : DayCall (day_if_committed d e o) old_day new_day
  -- the third value is the stamp that the row then says
  pub stamp : (v : Narrowed) → o ≡ answered v → get_or a.values 2 0 ≡ (day_of new_day).stamp

-- what `dock_commit` answers of the day's row xs, an entry's row ys and a stamp s, and leaves in what is lent
abbrev pub CommitCall : (xs ys : List ℕ) (s : ℕ) (old_plan old_fields old_bounds : List ℕ) → Answer
    → (new_day new_plan new_fields new_bounds : List ℕ) → Type 0
CommitCall xs ys s old_plan old_fields =
    let e = entry_in ys 0 in
    CommittedCall (day_of xs) e (and_then (day_beside xs (length ys) (length old_fields)) (λ d. commit_of d e s (length old_plan)))
    xs old_plan old_fields
