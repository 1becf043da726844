-- What the lines of a text say, read from its bytes alone: Laws.antt states the demands of these numbers. What stands where a text is no
-- report does not matter there.
use Rattle.std.specs.Prelude.{ℕ, suc, Bool, true, false, cond, ◌&&◌, List, [], ◌∷◌, map, get_or, drop, eqb, leb, ltb, None, Option, Some}
use Rattle.base.specs.Outcomes.{Code, code, answered}
use Rattle.list.specs.DayLists.{day_list}
use Rattle.list.specs.declared.types.Kind.{Kind}
use Rattle.list.specs.declared.types.Kind.TheVariants.{Pause, Whole}
use Rattle.list.specs.declared.types.Entry.{Entry}
use Rattle.list.specs.declared.types.DayList.{DayList}
use Rattle.base.specs.Counting.{list_of}
use Rattle.windows.specs.Windows.{Windows, windows_of}
use Rattle.windows.specs.Plans.{idle}
use Rattle.bounds.specs.ShownPlans.{early_plan, late_plan}
use Rattle.planner.specs.Demand3.{Told}
use Rattle.report.specs.Text.{ascii, says_after}

-- Lines and fields.

-- a line as its fields
abbrev pub LineFields : Type 0
LineFields = List (List ℕ)

-- a byte before the first part
abbrev pub in_first : ℕ → List (List ℕ) → List (List ℕ)
in_first b [] = (b ∷ []) ∷ []
in_first b (f ∷ fs) = (b ∷ f) ∷ fs

-- the parts of a text, each ended by the byte c; what stands after the last c is a part too
unfoldable pub parts : ℕ → List ℕ → List (List ℕ)
parts c [] = []
parts c (b ∷ bs) = cond (eqb b c) ([] ∷ parts c bs) (in_first b (parts c bs))

-- "fields one space apart and every line ended by a newline": the lines of a text
unfoldable pub lines_of : List ℕ → List LineFields
lines_of text = map (parts 32) (parts 10 text)

-- line i; none from the text's end on
abbrev pub line_at : List ℕ → ℕ → LineFields
line_at text i = get_or (lines_of text) i []

-- the number that field j of a line says in base ten
abbrev pub number_in : LineFields → ℕ → ℕ
number_in fs j = says_after 0 (get_or fs j [])

-- whether two fields have the same bytes
abbrev pub same_field : List ℕ → List ℕ → Bool
same_field [] [] = true
same_field [] (y ∷ ys) = false
same_field (x ∷ xs) [] = false
same_field (x ∷ xs) (y ∷ ys) = eqb x y && same_field xs ys

-- The head line.

-- "a head line with H, n, the moves and `broken`": H
abbrev pub day_printed : List ℕ → ℕ
day_printed text = number_in (line_at text 0) 1

-- n
abbrev pub count_printed : List ℕ → ℕ
count_printed text = number_in (line_at text 0) 3

-- the moves
abbrev pub moves_printed : List ℕ → ℕ
moves_printed text = number_in (line_at text 0) 5

-- `broken`
abbrev pub broken_printed : List ℕ → ℕ
broken_printed text = number_in (line_at text 0) 7

-- The n lines after it.

-- "seal or `-`"
abbrev pub seal_said : List ℕ → Option ℕ
seal_said f = cond (same_field f (ascii "-")) None (Some (says_after 0 f))

-- "`pause` or `whole`"
abbrev pub kind_said : List ℕ → Kind
kind_said f = cond (same_field f (ascii "whole")) Whole Pause

-- "per entry its place, serial, seal or `-`, `pause` or `whole`, settled r, settled d, p, least end, greatest start": the entry of a line
abbrev pub entry_said : LineFields → Entry
entry_said fs =
    record {
      serial = number_in fs 1;
      seal = seal_said (get_or fs 2 []);
      r = number_in fs 4;
      d = number_in fs 5;
      p = number_in fs 6;
      kind = kind_said (get_or fs 3 []);
    }

-- The list printed: H and n of the head line, and the entries of the n lines, with their settled windows. No line has the minute at which
-- the room opens, so it is given.
unfoldable pub list_printed : ℕ → List ℕ → DayList
list_printed opening text =
    day_list (record { h = day_printed text; opening = opening })
    (map (λ i. entry_said (line_at text (suc i))) (list_of (count_printed text) (λ i. i)))

-- its windows, whatever that minute is
abbrev pub windows_printed : List ℕ → Windows
windows_printed text = windows_of (list_printed 0 text)

-- of the entry at place i its place,
abbrev pub place_printed : List ℕ → ℕ → ℕ
place_printed text i = number_in (line_at text (suc i)) 0

-- its least end
abbrev pub end_printed : List ℕ → ℕ → ℕ
end_printed text i = number_in (line_at text (suc i)) 7

-- and its greatest start
abbrev pub start_printed : List ℕ → ℕ → ℕ
start_printed text i = number_in (line_at text (suc i)) 8

-- The lines after those.

-- "per maximal run of one entry in the plan its first minute, its end, the place"
abbrev pub runs_printed : List ℕ → List LineFields
runs_printed text = drop (suc (count_printed text)) (lines_of text)

-- the run of a line has minute t
abbrev pub has_minute : LineFields → ℕ → Bool
has_minute fs t = leb (number_in fs 0) t && ltb t (number_in fs 1)

-- the place of the first run that has minute t; a minute that no run has is idle
unfoldable pub place_by : List LineFields → ℕ → ℕ
place_by [] t = idle
place_by (fs ∷ rest) t = cond (has_minute fs t) (number_in fs 2) (place_by rest t)

-- the plan that the runs say, as bytes
unfoldable pub plan_printed : List ℕ → List ℕ
plan_printed text = list_of (day_printed text) (place_by (runs_printed text))

-- What is told.

-- the windows, moves and bounds printed, and the plans that they lead to
abbrev pub told_by : List ℕ → Told
told_by text =
    let w = windows_printed text in
    record {
      outcome = answered (record { windows = w; moves = moves_printed text });
      end = end_printed text;
      start = start_printed text;
      early = λ k. early_plan w k (end_printed text k);
      late = λ k. late_plan w k (start_printed text k);
    }

-- "the number, then what it carries": three values after 9 and one after any other number, each after a word
unfoldable pub code_printed : List ℕ → Code
code_printed text =
    let value = number_in (line_at text 0) in code (value 1) (cond (eqb (value 1) 9) (value 3 ∷ value 5 ∷ value 7 ∷ []) (value 3 ∷ []))
