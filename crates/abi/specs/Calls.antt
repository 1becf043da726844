-- What the exported calls answer, as numbers, and what they leave in the lent buffers.
use Rattle.std.specs.Prelude.{ℕ, ◌≡◌, List, [], ◌∷◌, ◌++◌, length}
use Rattle.base.specs.Outcomes.{code, Outcome, answered, refused, and_then}
use Rattle.format.specs.Reading.{read_of}
use Rattle.format.specs.Writing.{write_of, buffer_after}
use Rattle.list.specs.declared.types.DayList.{DayList}
use Rattle.windows.specs.Windows.{windows_of}
use Rattle.jackson.specs.Calls.{test_of, fill_of, plan_after}
use Rattle.jackson.specs.Minutes.{schedule}
use Rattle.narrow.specs.Rounds.{Narrowed}
use Rattle.list.specs.DayLists.{whole_in}
use Rattle.narrow.specs.Calls.{settle_of, listed}
use Rattle.planner.specs.Calls.{settled_or, planned, plan_of, ends_of, starts_of, broken_of, shown_of}
use Rattle.bounds.specs.ShownPlans.{bound_of, shown_plan}
use Rattle.bounds.specs.declared.types.Shown.{Shown}
use Rattle.bounds.specs.declared.types.Shown.TheVariants.{Early, Late}
use Rattle.report.specs.Reports.{refusal_line, report_of}
use Rattle.report.specs.Calls.{store_of, text_after}
use Rattle.codes.specs.Codes.{three}
use Rattle.flat.specs.Flat.{flat_of, value_of, flat_fault, list_in, flat_beside}
use Rattle.abi.specs.declared.Answer.{Answer}

-- 0 with the values given, or a refusal's number with the values that it carries
abbrev pub answer_with : {A : Type 0} → (A → List ℕ) → Outcome A → Answer
answer_with f (answered a) = record { number = 0; values = three (f a) }
answer_with f (refused k) = record { number = k.number; values = three k.carries }

-- a lent row after reading: the list read, or what was there
abbrev pub fields_after : Outcome DayList → List ℕ → List ℕ
fields_after (answered l) old = flat_of l
fields_after (refused k) old = old

-- an answer where reading has the outcome o, and what it leaves in a row that held old: a row that says the list read
pub record TakenCall (o : Outcome DayList) (old : List ℕ) (a : Answer) (fields : List ℕ) : Type 0 where
  pub answer : a ≡ answer_with (λ _. []) o
  pub buffer : fields ≡ fields_after o old
  pub back : (l : DayList) → o ≡ answered l → list_in fields ≡ answered l

-- the list that the bytes bs say, where a row of the length given is lent beside them: row 100 for that first
abbrev pub read_in : List ℕ → ℕ → Outcome DayList
read_in bs lent = and_then (flat_fault lent) (λ _. read_of bs)

-- what `dock_read` answers of the bytes bs, and leaves in a row that held old
abbrev pub ReadCall : List ℕ → List ℕ → Answer → List ℕ → Type 0
ReadCall bs old = TakenCall (read_in bs (length old)) old

-- an answer where writing the list l has the outcome o, and what it leaves in a buffer that held old
pub record WrittenCall (l : DayList) (o : Outcome ℕ) (old : List ℕ) (a : Answer) (out : List ℕ) : Type 0 where
  pub answer : a ≡ answer_with (λ n. n ∷ []) o
  pub buffer : out ≡ buffer_after o l old

-- what `dock_write` answers of the row xs, and leaves in a buffer that held old
abbrev pub WriteCall : List ℕ → List ℕ → Answer → List ℕ → Type 0
WriteCall xs old = WrittenCall (value_of xs) (and_then (list_in xs) (λ l. write_of l (length old))) old

-- what `dock_overload` answers of the row xs
abbrev pub OverloadCall : List ℕ → Answer → Type 0
OverloadCall xs a = a ≡ answer_with (λ _. []) (and_then (list_in xs) test_of)

-- an answer where filling a plan buffer that held old with the schedule of the list l has the outcome o, and what it leaves there
pub record FilledCall (l : DayList) (o : Outcome (Unit {0})) (old : List ℕ) (a : Answer) (plan : List ℕ) : Type 0 where
  pub answer : a ≡ answer_with (λ _. []) o
  pub buffer : plan ≡ plan_after o (windows_of l) old

-- what `dock_schedule` answers of the row xs, and leaves in a plan buffer that held old
abbrev pub ScheduleCall : List ℕ → List ℕ → Answer → List ℕ → Type 0
ScheduleCall xs old = FilledCall (value_of xs) (and_then (list_in xs) (λ l. fill_of l (length old))) old

-- a lent row after narrowing: the list answered, or what was there
abbrev pub narrowed_after : Outcome (DayList × ℕ) → List ℕ → List ℕ
narrowed_after (answered x) old = flat_of x.0
narrowed_after (refused k) old = old

-- an answer where narrowing has the outcome o, with the moves first and then these numbers, and what it leaves in a row that held old: a
-- row that says the list answered
pub record NarrowCall (o : Outcome (DayList × ℕ)) (second third : ℕ) (old : List ℕ) (a : Answer) (fields : List ℕ) : Type 0 where
  pub answer : a ≡ answer_with (λ x. x.1 ∷ second ∷ third ∷ []) o
  pub buffer : fields ≡ narrowed_after o old
  pub back : (x : DayList × ℕ) → o ≡ answered x → list_in fields ≡ answered x.0

-- what `dock_settle` answers of the row xs, and leaves in a row that held old: the moves alone
abbrev pub SettleCall : List ℕ → List ℕ → Answer → List ℕ → Type 0
SettleCall xs old = NarrowCall (listed (value_of xs) (and_then (flat_beside xs (length old)) settle_of)) 0 0 old

-- an answer where planning the list l has the outcome o, with the moves, the number of broken entries and a third number, and what it
-- leaves in a plan buffer, a row and bounds that held the old ones: the bounds are the least ends, then the greatest starts
pub record PlannedCall (l : DayList) (o : Outcome Narrowed) (third : ℕ) (old_plan old_fields old_bounds : List ℕ)
    (a : Answer) (new_plan new_fields new_bounds : List ℕ) : Type 0 where
  pub narrowed : NarrowCall (listed l o) (broken_of (whole_in l) o) third old_fields a new_fields
  pub plan : new_plan ≡ planned schedule old_plan o
  pub bounds : new_bounds ≡ settled_or old_bounds (λ _. ends_of (whole_in l) o ++ starts_of (whole_in l) o) o

-- what `dock_plan` answers of the row xs, and leaves in what is lent
abbrev pub PlanCall : List ℕ → List ℕ → List ℕ → List ℕ → Answer → List ℕ → List ℕ → List ℕ → Type 0
PlanCall xs old_plan old_fields =
    PlannedCall (value_of xs) (and_then (flat_beside xs (length old_fields)) (λ l. plan_of l (length old_plan))) 0 old_plan old_fields

-- an answer where showing the plan x of place k of the list l has the outcome o, with the moves and the place's bound in the settled
-- windows, and what it leaves in a plan buffer and a row that held the old ones
pub record ShownCall (x : Shown) (l : DayList) (k : ℕ) (o : Outcome Narrowed) (old_plan old_fields : List ℕ) (a : Answer)
    (new_plan new_fields : List ℕ) : Type 0 where
  pub narrowed : NarrowCall (listed l o) (settled_or 0 (bound_of x (whole_in l) k) o) 0 old_fields a new_fields
  pub plan : new_plan ≡ planned (shown_plan x (whole_in l) k) old_plan o

-- what `dock_early` and `dock_late` answer of the row xs and a place k, and leave in what is lent
abbrev pub ShowCall : Shown → List ℕ → ℕ → List ℕ → List ℕ → Answer → List ℕ → List ℕ → Type 0
ShowCall x xs k old_plan old_fields =
    ShownCall x (value_of xs) k (and_then (flat_beside xs (length old_fields)) (λ l. shown_of l k (length old_plan))) old_plan old_fields

abbrev pub EarlyCall : List ℕ → ℕ → List ℕ → List ℕ → Answer → List ℕ → List ℕ → Type 0
EarlyCall = ShowCall Early

abbrev pub LateCall : List ℕ → ℕ → List ℕ → List ℕ → Answer → List ℕ → List ℕ → Type 0
LateCall = ShowCall Late

-- what a call answers of a text, or of a refusal, and leaves in a buffer that held old: the number of bytes stored
pub record TextCall (o : Outcome (List ℕ)) (old : List ℕ) (a : Answer) (out : List ℕ) : Type 0 where
  pub answer : a ≡ answer_with (λ n. n ∷ []) (store_of o (length old))
  pub buffer : out ≡ text_after o old

-- what `dock_report` answers of the bytes bs, and leaves in a buffer that held old
abbrev pub ReportCall : List ℕ → List ℕ → Answer → List ℕ → Type 0
ReportCall bs = TextCall (report_of bs)

-- what `dock_refusal_line` answers of a refusal's number and values, and leaves in a buffer that held old
abbrev pub LineCall : ℕ → List ℕ → List ℕ → Answer → List ℕ → Type 0
LineCall number values = TextCall (answered (refusal_line (code number values)))
