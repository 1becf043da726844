-- Demands 2 and 3 of the numbers that stand in the bytes printed: `report_law` of proofs/ReportLaws.antt, for every input.
use Rattle.std.specs.Prelude.{ℕ, suc, ◌<◌, ◌≡◌, ◌↔◌, List, [], ◌∷◌, length, get_or}
use Rattle.base.specs.Outcomes.{Code, answered, refused}
use Rattle.format.specs.Reading.{read_of}
use Rattle.format.specs.Laws.{ReadRefusal}
use Rattle.list.specs.declared.types.DayList.{DayList}
use Rattle.windows.specs.Windows.{windows_of}
use Rattle.windows.specs.Plans.{places_in}
use Rattle.list.specs.DayLists.{whole_in}
use Rattle.narrow.specs.Calls.{list_with}
use Rattle.planner.specs.Demand3.{told_refused, Demand3}
use Rattle.planner.specs.Demand2.{PlansWindows}
use Rattle.report.specs.Runs.{Run}
use Rattle.report.specs.Text.{ascii, decimal}
use Rattle.report.specs.Reports.{seal_text, kind_text, refusal_line, report_of}
use Rattle.report.specs.Printed.{LineFields, lines_of, line_at, number_in, day_printed, count_printed, moves_printed, broken_printed}
use Rattle.report.specs.Printed.{entry_said, list_printed, windows_printed, place_printed, end_printed, start_printed}
use Rattle.report.specs.Printed.{runs_printed, plan_printed, told_by, code_printed}

-- a run's line says the minutes from s to e and the place k
pub record SaysRun (fs : LineFields) (s e k : ℕ) : Type 0 where
  pub fields : fs ≡ decimal s ∷ decimal e ∷ decimal k ∷ []
  pub first : number_in fs 0 ≡ s
  pub end : number_in fs 1 ≡ e
  pub place : number_in fs 2 ≡ k

-- lines say the maximal runs of one entry in m, in the order of their minutes, so that no run has two lines
pub record SaysRuns (h : ℕ) (m : ℕ → ℕ) (ls : List LineFields) : Type 0 where
  pub each : (s e k : ℕ) → Run h m s e k ↔ ((j : ℕ) × (j < length ls) × SaysRun (get_or ls j []) s e k)
  pub in_order : (i j : ℕ) → i < j → j < length ls → number_in (get_or ls i []) 0 < number_in (get_or ls j []) 0

-- what the numbers of a text are for the list l
pub record PrintsPlan (l : DayList) (text : List ℕ) : Type 0 where
  -- H, n, and of each entry the serial, seal, kind and minutes of work are those of l; the opening minute of l is not printed
  pub list : list_printed l.frame.opening text ≡ list_with l (windows_printed text)
  -- the head line and those of the entries have these fields, with these words, and no others; their bytes are in `ReportExamples`
  pub head_line_lem : line_at text 0
      ≡ ascii "day" ∷ decimal (day_printed text) ∷ ascii "entries" ∷ decimal (count_printed text) ∷ ascii "moves"
      ∷ decimal (moves_printed text) ∷ ascii "broken" ∷ decimal (broken_printed text) ∷ []
  pub entry_lines_lem : (i : ℕ) → i < count_printed text → let e = entry_said (line_at text (suc i)) in
      line_at text (suc i)
      ≡ decimal (place_printed text i) ∷ decimal e.serial ∷ seal_text e.seal ∷ kind_text e.kind ∷ decimal e.r ∷ decimal e.d
      ∷ decimal e.p ∷ decimal (end_printed text i) ∷ decimal (start_printed text i) ∷ []
  -- the lines of the entries are in the order of their places
  pub places : (i : ℕ) → i < count_printed text → place_printed text i ≡ i
  -- the plan printed is Jackson's schedule of the windows printed, and a plan; `broken` counts the whole entries that it breaks
  pub demand2 : PlansWindows (whole_in l) (windows_printed text) (plan_printed text) (broken_printed text)
  -- the windows printed are the widest settled ones inside those of l, the moves are those of the rounds, and the bounds are exact
  pub demand3 : Demand3 (whole_in l) (windows_of l) (told_by text)
  -- the runs printed are the maximal runs of that plan
  pub runs : SaysRuns (day_printed text) (places_in (plan_printed text)) (runs_printed text)

-- the fields of every refusal's line, with their words: `line_law` of proofs/PrintedLines.antt
pub record LineLaw (k : Code) : Type 0 where
  pub nine : k.number ≡ 9 → lines_of (refusal_line k)
      ≡ (ascii "refused" ∷ decimal 9 ∷ ascii "from" ∷ decimal (get_or k.carries 0 0) ∷ ascii "to" ∷ decimal (get_or k.carries 1 0)
      ∷ ascii "work" ∷ decimal (get_or k.carries 2 0) ∷ []) ∷ []
  pub ten : k.number ≡ 10
      → lines_of (refusal_line k) ≡ (ascii "refused" ∷ decimal 10 ∷ ascii "entry" ∷ decimal (get_or k.carries 0 0) ∷ []) ∷ []
  pub other : (k.number ≡ 9 → ⊥) → (k.number ≡ 10 → ⊥)
      → lines_of (refusal_line k) ≡ (ascii "refused" ∷ decimal k.number ∷ ascii "at" ∷ decimal (get_or k.carries 0 0) ∷ []) ∷ []

-- the line of the refusal k: its bytes, and what they say
pub record PrintsRefusal (k : Code) (text : List ℕ) : Type 0 where
  pub line : text ≡ refusal_line k
  pub fields : LineLaw k
  pub says : code_printed text ≡ k

-- what is printed for the input bs: one of three, and not two, since `read_of` and `report_of` have one outcome
pub data ReportLaw (bs text : List ℕ) : Type 0 where
  -- the list is turned back as it is read: the line has the first row, of 1 to 8, 15 and 16 and then 14, that holds, and
  -- where
  unread : (k : Code) → read_of bs ≡ refused k → ReadRefusal bs k → PrintsRefusal k text → ReportLaw bs text
  -- the list l is turned back as it is planned: demand 3 holds of the refusal printed, so that there are no settled windows inside those of
  -- l, and 9 stands there if l has no plan, 10 if it has one
  refuses : (l : DayList) (k : Code) → read_of bs ≡ answered l → report_of bs ≡ refused k → PrintsRefusal k text
      → Demand3 (whole_in l) (windows_of l) (told_refused (code_printed text)) → ReportLaw bs text
  -- the list l is planned: the text is its report, byte for byte, and the demands hold of the numbers printed
  plans : (l : DayList) → read_of bs ≡ answered l → report_of bs ≡ answered text → PrintsPlan l text → ReportLaw bs text
