-- The report of a day's bytes. That its numbers are in base ten is `decimal_is` of proofs/DecimalFacts.antt, that its runs are the maximal
-- ones `runs_are` of proofs/RunFacts.antt; demands 2 and 3 of its numbers stand in specs/Laws.antt, document 01's examples in
-- specs/Examples.antt.
use Rattle.std.specs.Prelude.{ℕ, cond, List, [], ◌∷◌, ◌++◌, get_or, eqb, None, Option, Some}
use Rattle.base.specs.Outcomes.{Code, Outcome, answered, refused, and_then}
use Rattle.list.specs.DayLists.{entries_of, blank, whole_in}
use Rattle.format.specs.Reading.{read_of}
use Rattle.list.specs.declared.types.Kind.{Kind}
use Rattle.list.specs.declared.types.Kind.TheVariants.{Pause, Whole}
use Rattle.list.specs.declared.types.Entry.{Entry}
use Rattle.list.specs.declared.types.DayList.{DayList}
use Rattle.windows.specs.Windows.{windows_of}
use Rattle.windows.specs.Intervals.{overload_of}
use Rattle.windows.specs.Plans.{places_in}
use Rattle.jackson.specs.Minutes.{schedule}
use Rattle.narrow.specs.Rounds.{Narrowed, narrowing}
use Rattle.narrow.specs.Calls.{list_with}
use Rattle.bounds.specs.Ends.{least_end, greatest_start}
use Rattle.planner.specs.BrokenEntries.{broken_in}
use Rattle.report.specs.Text.{ascii, decimal, line, texts}
use Rattle.report.specs.Runs.{begins_run, run_end}

-- "a head line with H, n, the moves and `broken`"
unfoldable pub head_line : ℕ → ℕ → ℕ → ℕ → List ℕ
head_line h n moves broken =
    line (ascii "day" ∷ decimal h ∷ ascii "entries" ∷ decimal n ∷ ascii "moves" ∷ decimal moves ∷ ascii "broken" ∷ decimal broken ∷ [])

-- "seal or `-`"
abbrev pub seal_text : Option ℕ → List ℕ
seal_text None = ascii "-"
seal_text (Some x) = decimal x

-- "`pause` or `whole`"
abbrev pub kind_text : Kind → List ℕ
kind_text Pause = ascii "pause"
kind_text Whole = ascii "whole"

-- "per entry its place, serial, seal or `-`, `pause` or `whole`, settled r, settled d, p, least end, greatest start"
unfoldable pub entry_line : ℕ → Entry → ℕ → ℕ → List ℕ
entry_line place e end start =
    line
    (decimal place ∷ decimal e.serial ∷ seal_text e.seal ∷ kind_text e.kind
    ∷ decimal e.r ∷ decimal e.d ∷ decimal e.p ∷ decimal end ∷ decimal start ∷ [])

-- the line of the entry at place i of a list, with its least end and its greatest start
abbrev pub entry_line_at : DayList → (ℕ → ℕ) → (ℕ → ℕ) → ℕ → List ℕ
entry_line_at l end start i = entry_line i (get_or (entries_of l) i blank) (end i) (start i)

-- the lines of all its entries
unfoldable pub entry_lines : DayList → (ℕ → ℕ) → (ℕ → ℕ) → List ℕ
entry_lines l end start = texts l.n (entry_line_at l end start)

-- "per maximal run of one entry in the plan its first minute, its end, the place"
unfoldable pub run_line : ℕ → ℕ → ℕ → List ℕ
run_line s e k = line (decimal s ∷ decimal e ∷ decimal k ∷ [])

-- the line of the run that begins at minute t of the h minutes of m, if one does
abbrev pub run_line_at : ℕ → (ℕ → ℕ) → ℕ → List ℕ
run_line_at h m t = cond (begins_run m t) (run_line t (run_end h m t) (m t)) []

-- the lines of all its runs
unfoldable pub run_lines : ℕ → (ℕ → ℕ) → List ℕ
run_lines h m = texts h (run_line_at h m)

-- "Refusals print as `refused 7 at 3` (the number, then what it carries), `refused 9 from 2 to 5 work 4`, `refused 10 entry 0`."
unfoldable pub refusal_line : Code → List ℕ
refusal_line k =
    let value : ℕ → List ℕ = λ i. decimal (get_or k.carries i 0) in
    line
    (ascii "refused"
    ∷ decimal k.number
    ∷ cond (eqb k.number 9) (ascii "from" ∷ value 0 ∷ ascii "to" ∷ value 1 ∷ ascii "work" ∷ value 2 ∷ [])
    (cond (eqb k.number 10) (ascii "entry" ∷ value 0 ∷ []) (ascii "at" ∷ value 0 ∷ [])))

-- the text of a list that was narrowed: the settled windows stand in its entries' lines, and its runs are those of Jackson's schedule of
-- them. Demands 2 and 3 of the crate planner (specs/Demand2.antt, specs/Demand3.antt) speak of the same windows, plan and bounds.
unfoldable pub day_text : DayList → Narrowed → List ℕ
day_text l v =
    let w = v.windows in
    let settled = list_with l w in
    let m = places_in (schedule w) in
    head_line settled.frame.h settled.n v.moves (broken_in (whole_in l) w m)
    ++ (entry_lines settled (least_end overload_of (whole_in l) w) (greatest_start overload_of (whole_in l) w)
    ++ run_lines settled.frame.h m)

-- the text of a list that was read, or row 9 or 10
abbrev pub planned_text : DayList → Outcome (List ℕ)
planned_text l = and_then (narrowing overload_of (whole_in l) (windows_of l)) (λ v. answered (day_text l v))

-- the text of the day that bytes say, or the refusal of its list: rows 1 to 8, 14, 15 and 16 as it is read, 9 and 10 as it is
-- planned
unfoldable pub report_of : List ℕ → Outcome (List ℕ)
report_of bs = and_then (read_of bs) planned_text

-- a text, or a refusal's line
abbrev pub printed : Outcome (List ℕ) → List ℕ
printed (answered text) = text
printed (refused k) = refusal_line k

-- what the program prints for an input
abbrev pub printed_of : List ℕ → List ℕ
printed_of bs = printed (report_of bs)
