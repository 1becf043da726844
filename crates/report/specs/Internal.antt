-- What private functions promise each other. No public promise cites these.
use Rattle.std.specs.Prelude.{ℕ, ◌+◌, ◌≤◌, ◌≡◌, cond, List, [], ◌∷◌, ◌++◌, length, get_or, eqb, Err, Ok, Result}
use Rattle.base.specs.Outcomes.{Outcome, answered, refused}
use Rattle.list.specs.Refusals.{code_of}
use Rattle.list.specs.declared.types.Entry.{Entry}
use Rattle.list.specs.declared.types.DayList.{DayList}
use Rattle.list.specs.declared.types.Refusal.{Refusal}
use Rattle.windows.specs.Plans.{places_in}
use Rattle.planner.specs.declared.types.PlannedDay.{PlannedDay}
use Rattle.report.specs.Text.{ascii, decimal, line}
use Rattle.report.specs.Reports.{head_line, entry_lines, run_line_at, run_lines}

-- A step of the report's writer, in a buffer of so many bytes: if there is room for a text, it puts it after what stands there.
pub record Puts (room : ℕ) (old text new : List ℕ) : Type 0 where
  pub put : length old + length text ≤ room → new ≡ old ++ text

-- what putting a text answers, or the refusal that stands instead of one
abbrev pub PutsOr : ℕ → Outcome (List ℕ) → List ℕ → Result (Unit {0}) Refusal → List ℕ → Type 0
PutsOr room o old (Ok _) new = (text : List ℕ) × (o ≡ answered text) × Puts room old text new
PutsOr room o old (Err x) new = o ≡ refused (code_of x)

-- the lines of a plan's runs, and the line of the one that begins at minute t, if one does
abbrev pub runs_text : List ℕ → List ℕ
runs_text plan = run_lines (length plan) (places_in plan)

abbrev pub run_text_at : List ℕ → ℕ → List ℕ
run_text_at plan t = run_line_at (length plan) (places_in plan) t

-- the entries' lines, with the least ends and the greatest starts in arrays
abbrev pub entries_text : DayList → List ℕ → List ℕ → List ℕ
entries_text l ends starts = entry_lines l (λ i. get_or ends i 0) (λ i. get_or starts i 0)

-- the end of an entry's line, from the space before r on
abbrev pub times_text : Entry → ℕ → ℕ → List ℕ
times_text e end start = ascii " " ++ line (decimal e.r ∷ decimal e.d ∷ decimal e.p ∷ decimal end ∷ decimal start ∷ [])

-- what stands after a refusal's number, without the newline
abbrev pub carried_text : ℕ → List ℕ → List ℕ
carried_text number values =
    cond (eqb number 9)
    ((ascii " from " ++ decimal (get_or values 0 0))
    ++ ((ascii " to " ++ decimal (get_or values 1 0)) ++ (ascii " work " ++ decimal (get_or values 2 0))))
    (cond (eqb number 10) (ascii " entry " ++ decimal (get_or values 0 0)) (ascii " at " ++ decimal (get_or values 0 0)))

-- the text of a planned day with a plan's bytes
abbrev pub answer_text : PlannedDay → List ℕ → List ℕ
answer_text day plan =
    let l = day.narrowed.list in
    head_line l.frame.h l.n day.narrowed.moves day.broken
    ++ (entries_text l day.ends day.starts ++ runs_text plan)
