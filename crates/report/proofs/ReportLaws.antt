-- The demands hold of the numbers printed.
-- Assumes nothing.
use mathlib.Core.Path.{◌≡◌, refl, sym, ap, subst, ◌∙◌}
use mathlib.Core.Logic.{inl, inr}
use mathlib.Core.Bool.{Bool, true}
use mathlib.Core.List.{List, [], ◌∷◌, ◌++◌}
use Prim.Native.Nat.{ℕ, ◌<◌}
use native.Mathlib.Omega.{arith}
use lib.ListN.{length, get_or}
use Rattle.base.specs.Outcomes.{Code, code, Outcome, answered, refused, and_then}
use Rattle.list.specs.DayLists.{entries_of, blank, day_list, whole_in}
use Rattle.list.specs.Checks.{WellFormed}
use Rattle.format.specs.Reading.{read_of}
use Rattle.format.specs.Laws.{ReadingRow, ReadRefusal}
use Rattle.list.specs.declared.types.Entry.{Entry}
use Rattle.list.specs.declared.types.DayList.{DayList}
use Rattle.std.specs.Prelude.{Ok}
use Rattle.base.proofs.Inversion.{answered_same, answered_refused}
use Rattle.format.proofs.ReadLaws.{read_places, read_well_formed}
use Rattle.windows.specs.Windows.{Windows, windows_of, Formed}
use Rattle.windows.specs.Intervals.{overload_of}
use Rattle.windows.specs.Plans.{idle, places_in}
use Rattle.jackson.specs.Minutes.{schedule}
use Rattle.base.proofs.Listed.{list_is}
use Rattle.narrow.specs.Settling.{Widest}
use Rattle.narrow.specs.Rounds.{Narrowed, narrowing}
use Rattle.narrow.specs.Laws.{Reason}
use Rattle.narrow.specs.Calls.{list_with, settle_of}
use Rattle.narrow.proofs.OverloadPlanner.{overload_planner}
use Rattle.narrow.proofs.Fixpoints.{widest_formed}
use Rattle.narrow.proofs.NarrowLaws.{narrow_law}
use Rattle.narrow.proofs.Alike.{listed_entries}
use Rattle.windows.proofs.FormedLists.{list_formed}
use Rattle.narrow.proofs.ListAnswers.{settles}
use Rattle.bounds.specs.Ends.{least_end, greatest_start}
use Rattle.planner.specs.BrokenEntries.{broken_in}
use Rattle.bounds.specs.ShownPlans.{early_plan, late_plan}
use Rattle.planner.specs.Demand3.{told_refused, Demand3}
use Rattle.planner.specs.Demand2.{PlansWindows}
use Rattle.planner.proofs.Demands.{AtPlace, ByRules, demand3, plans_windows}
use Rattle.report.specs.Text.{line}
use Rattle.report.specs.Runs.{begins_run}
use Rattle.report.specs.Reports.{head_line, entry_line, entry_lines, run_line, run_lines, refusal_line, day_text, planned_text, report_of}
use Rattle.report.specs.Reports.{printed, printed_of}
use Rattle.report.specs.Printed.{LineFields, lines_of, list_printed, windows_printed, day_printed, runs_printed, place_by, plan_printed}
use Rattle.report.specs.Printed.{told_by, code_printed}
use Rattle.report.specs.Laws.{SaysRuns, PrintsPlan, PrintsRefusal, ReportLaw, unread, refuses, plans}
use Rattle.report.proofs.Fields.{text_said, kept, kept_each, kept_text}
use Rattle.report.proofs.PrintedLines.{head_fields, head_words, entry_fields, entry_words, Lines, day_is, count_is, moves_is}
use Rattle.report.proofs.PrintedLines.{broken_printed_is, place_is, end_printed_is, start_printed_is, runs_is, list_printed_is}
use Rattle.report.proofs.PrintedLines.{head_line_lem, entry_line_lem, nine_said, one_said, line_law}
use Rattle.report.proofs.PrintedRuns.{run_fields, run_words, runs_of, place_said, runs_said}

-- The lines of a list's text.
module _ (d : DayList) (moves broken : ℕ) (end start m : ℕ → ℕ) where
  abbrev entry : ℕ → Entry
  entry i = get_or (entries_of d) i blank

  abbrev fields : ℕ → LineFields
  fields i = entry_fields i (entry i) (end i) (start i)

  abbrev heads : LineFields
  heads = head_fields d.frame.h d.n moves broken

  day_lines_lem : Lines (head_line d.frame.h d.n moves broken ++ (entry_lines d end start ++ run_lines d.frame.h m))
      d.frame.h d.n moves broken entry end start (runs_of d.frame.h m)
  unfolding head_line entry_lines entry_line run_lines run_line
  day_lines_lem =
      let h = d.frame.h in
      record {
        said =
            ap lines_of (λ j. line heads ++ (kept_text (λ _. true) fields d.n j ++ kept_text (begins_run m) (run_fields h m) h j))
            ∙ text_said heads (kept d.n (λ _. true) fields) (runs_of h m) (head_words h d.n moves broken)
            (kept_each (λ _. true) fields d.n (λ i. entry_words i (entry i) (end i) (start i)))
            (kept_each (begins_run m) (run_fields h m) h (run_words h m));
      }

-- The text of a list that was narrowed.
module _ (l : DayList) (formed : WellFormed l) (v : Narrowed) (e : narrowing overload_of (whole_in l) (windows_of l) ≡ answered v) where
  abbrev w : Windows
  w = v.windows

  abbrev whole : ℕ → Bool
  whole = whole_in l

  abbrev text : List ℕ
  text = day_text l v

  abbrev plan : ℕ → ℕ
  plan = places_in (schedule w)

  abbrev settled : DayList
  settled = list_with l w

  -- its windows are those answered
  windows_are : windows_of settled ≡ w
  unfolding settle_of
  windows_are =
      let is : settle_of l ≡ answered v = rw formed e in
      let held = (settles l (Ok (record { list = settled; moves = v.moves })) (rw is refl)).holds.narrowed in
      ap (λ (x : Narrowed). x.windows) (answered_same refl (held ∙ is))

  lines : Lines text settled.frame.h settled.n v.moves (broken_in whole w plan) (λ i. get_or (entries_of settled) i blank)
      (least_end overload_of whole w) (greatest_start overload_of whole w) (runs_of settled.frame.h plan)
  unfolding day_text
  lines = day_lines_lem settled v.moves _ _ _ _

  -- the list printed
  all_counted : length (entries_of settled) ≡ settled.n
  unfolding list_with
  all_counted = ap (λ (es : List Entry). length es) (listed_entries l w)

  list_printed_lem : list_printed l.frame.opening text ≡ settled
  unfolding list_with
  list_printed_lem =
      list_printed_is lines l.frame.opening (entries_of settled) all_counted (λ i _. refl) ∙ ap (day_list l.frame) (listed_entries l w)

  windows_printed_lem : windows_printed text ≡ w
  unfolding list_printed
  windows_printed_lem = ap windows_of list_printed_lem ∙ windows_are

  count : settled.n ≡ w.n
  count = sym all_counted ∙ ap (λ (u : Windows). u.n) windows_are

  day : settled.frame.h ≡ w.h
  day = ap (λ (u : Windows). u.h) windows_are

  -- what is known of the windows
  given : Formed (windows_of l)
  given = list_formed l formed

  best : Widest whole (windows_of l) w
  best = (narrow_law overload_planner whole (windows_of l) given).widest v e

  demand2_given : PlansWindows whole w (schedule w) (broken_in whole w plan)
  demand2_given = plans_windows whole w (widest_formed whole (windows_of l) w given best) best.settled.plan

  -- the plan printed
  plan_printed_lem : plan_printed text ≡ schedule w
  unfolding plan_printed
  plan_printed_lem =
      let long : length (schedule w) ≡ day_printed text = demand2_given.plan.long ∙ sym day ∙ sym (day_is lines) in
      list_is (day_printed text) (place_by (runs_printed text)) idle (schedule w) long
      (λ t below.
      ap (λ (ls : List LineFields). place_by ls t) (runs_is lines) ∙ place_said settled.frame.h plan t (omega (arith, day_is lines)))

  -- what is told of the list
  told_is : (told_by text).outcome ≡ answered v
  told_is = λ j. answered (record { windows = windows_printed_lem j; moves = moves_is lines j })

  at_place : (k : ℕ) → k < w.n → AtPlace whole w (told_by text) k
  at_place k below =
      let end = end_printed_is lines k (omega (arith, count)) in
      let start = start_printed_is lines k (omega (arith, count)) in
      record {
        end = end;
        start = start;
        early = λ j. early_plan (windows_printed_lem j) k (end j);
        late = λ j. late_plan (windows_printed_lem j) k (start j);
      }

  rules : ByRules whole (told_by text)
  rules u is =
      subst (λ (x : Narrowed). (k : ℕ) → k < x.windows.n → AtPlace whole x.windows (told_by text) k) (answered_same told_is is) at_place

  prints_plan : PrintsPlan l text
  prints_plan =
      record {
        list = list_printed_lem ∙ ap (list_with l) (sym windows_printed_lem);
        head_line_lem = head_line_lem lines;
        entry_lines_lem = λ i below. entry_line_lem lines i (omega (arith, count_is lines));
        places = λ i below. place_is lines i (omega (arith, count_is lines));
        demand2 = coe 1 0 (j. PlansWindows whole (windows_printed_lem j) (plan_printed_lem j) (broken_printed_is lines j)) demand2_given;
        demand3 = demand3 whole (windows_of l) given (told_by text) (told_is ∙ sym e) rules;
        runs = coe 1 0 (j. SaysRuns (day_is lines j) (places_in (plan_printed_lem j)) (runs_is lines j)) (runs_said settled.frame.h plan);
      }

-- The line of a refusal.

abbrev Says : Code → Type 0
Says k = code_printed (refusal_line k) ≡ k

prints_refusal : (k : Code) → Says k → PrintsRefusal k (refusal_line k)
prints_refusal k says = record { line = refl; fields = line_law k; says = says }

-- no row of reading is 9, which carries more than a place
not_nine : (n : ℕ) → ReadingRow n → n ≡ 9 → ⊥
not_nine n (inl (_, h)) z = omega arith
not_nine n (inr (inl h)) z = omega arith
not_nine n (inr (inr h)) z = omega arith

-- of one that is given as the list is read
unread_says : (bs : List ℕ) (k : Code) → read_of bs ≡ refused k → Says k
unread_says bs k e = go (read_places bs k e)
  where
    go : ReadRefusal bs k → Says k
    go (inl (in_bytes, _)) =
        let is : k ≡ code k.number (in_bytes.place ∷ []) = λ j. code k.number (in_bytes.carried j) in
        subst Says (sym is) (one_said k.number in_bytes.place (not_nine k.number in_bytes.reading))
    go (inr (at, is, clash)) = subst Says (sym is) (one_said 14 at (λ z. omega arith))

-- of one that is given as it is planned
module _ (l : DayList) (formed : WellFormed l) (k : Code) (e : narrowing overload_of (whole_in l) (windows_of l) ≡ refused k) where
  unplanned_says : Says k
  unplanned_says = go ((narrow_law overload_planner (whole_in l) (windows_of l) (list_formed l formed)).reason k e)
    where
      go : Reason (whole_in l) (windows_of l) k → Says k
      go (inl (shows, none)) = subst Says (sym shows.carries) (nine_said shows.a shows.b _)
      go (inr ((i, place, is_whole, is), plan)) = subst Says (sym is) (one_said 10 i (λ z. omega arith))

  refuses_plan : Demand3 (whole_in l) (windows_of l) (told_refused (code_printed (refusal_line k)))
  refuses_plan =
      demand3 (whole_in l) (windows_of l) (list_formed l formed) (told_refused (code_printed (refusal_line k)))
      (ap refused unplanned_says ∙ sym e) (λ v is. absurd (answered_refused is refl))

-- Every input.
pub report_law : (bs : List ℕ) → ReportLaw bs (printed_of bs)
unfolding report_of
report_law bs = read (read_of bs) refl
  where
    read : (o : Outcome DayList) → read_of bs ≡ o → ReportLaw bs (printed (and_then o planned_text))
    read (refused k) e = unread k e (read_places bs k e) (prints_refusal k (unread_says bs k e))
    read (answered l) e = narrowed (narrowing overload_of (whole_in l) (windows_of l)) refl
      where
        formed : WellFormed l
        formed = read_well_formed bs l e

        narrowed : (o : Outcome Narrowed) → narrowing overload_of (whole_in l) (windows_of l) ≡ o
            → ReportLaw bs (printed (and_then o (λ v. answered (day_text l v))))
        narrowed (refused k) q =
            refuses l k e (rw (e, q)) (prints_refusal k (unplanned_says l formed k q)) (refuses_plan l formed k q)
        narrowed (answered v) q = plans l e (rw (e, q)) (prints_plan l formed v q)
