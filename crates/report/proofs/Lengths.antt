-- No text of a day has more than 22,352 bytes.
-- Assumes nothing.
use mathlib.Core.Path.{◌≡◌, refl, sym, ap, ◌∙◌}
use mathlib.Core.Logic.{◌⊎◌, inl, inr}
use mathlib.Core.Bool.{Bool, cond}
use mathlib.Core.List.{List, []}
use Prim.Native.Nat.{ℕ, ◌+◌, ◌*◌, ◌-◌, ◌<◌, ◌≤◌}
use native.Mathlib.Omega.{arith}
use lib.ListN.{length, get_or, length-append, length-take}
use lib.Seq.{get_or-take}
use Rattle.base.specs.Outcomes.{Outcome, answered, refused, and_then}
use Rattle.list.specs.Machine.{Bytes, Typed}
use Rattle.list.specs.DayLists.{entries_of, blank, whole_in}
use Rattle.list.specs.Checks.{WellFormed}
use Rattle.format.specs.Reading.{read_of}
use Rattle.list.specs.declared.types.DayList.{DayList}
use Rattle.base.proofs.Inversion.{Says, Anything}
use Rattle.list.proofs.Sound.{sound_list}
use Rattle.format.proofs.ReadLaws.{read_well_formed, read_typed}
use Rattle.windows.specs.Windows.{Windows, windows_of, Formed}
use Rattle.windows.specs.Plans.{idle, places_in, PlanBytes}
use Rattle.windows.specs.Intervals.{overload_of}
use Rattle.jackson.specs.Minutes.{schedule}
use Rattle.base.proofs.Sums.{sum_most}
use Rattle.windows.proofs.FormedLists.{list_few, list_formed}
use Rattle.narrow.specs.Settling.{Settled, Widest, minutes_cut}
use Rattle.narrow.specs.Rounds.{Narrowed, narrowing}
use Rattle.narrow.specs.Laws.{NarrowLaw}
use Rattle.narrow.specs.Calls.{entry_with, list_with}
use Rattle.narrow.proofs.OverloadPlanner.{overload_planner}
use Rattle.narrow.proofs.Fixpoints.{widest_formed}
use Rattle.narrow.proofs.NarrowLaws.{narrow_law}
use Rattle.narrow.proofs.Costs.{by_test}
use Rattle.narrow.proofs.Alike.{with_length, listed_entry}
use Rattle.bounds.specs.Ends.{least_end, greatest_start}
use Rattle.planner.specs.BrokenEntries.{is_broken, broken_in}
use Rattle.bounds.proofs.EndBounds.{early_is}
use Rattle.bounds.proofs.StartBounds.{late_is}
use Rattle.planner.proofs.Demands.{plans_windows}
use Rattle.report.specs.Runs.{begins_run, run_end}
use Rattle.report.specs.Reports.{entry_line_at, entry_lines, run_line, run_lines, day_text, planned_text, report_of}
use Rattle.report.specs.Calls.{enough}
use Rattle.report.proofs.Texts.{texts_short}
use Rattle.report.proofs.LineLengths.{head_short, entry_line_short, run_short}
use Rattle.report.proofs.RunFacts.{begins_entry, run_in_day}

broken_few : (whole : ℕ → Bool) (w : Windows) (m : ℕ → ℕ) → broken_in whole w m ≤ w.n
unfolding broken_in
broken_few whole w m =
    omega (arith, sum_most w.n 1 _ one)
  where
    one : (i : ℕ) → i < w.n → cond (is_broken whole w.h m i) 1 0 ≤ 1
    one i _ = by_test (λ (x : ℕ). x ≤ 1) (is_broken whole w.h m i) 1 0 (λ _. omega arith) (λ _. omega arith)

-- A day of at most 1,440 minutes with at most 64 entries.
module _ (w : Windows) (formed : Formed w) (day : w.h ≤ 1440) (few : w.n ≤ 64) where
  -- the runs of the schedule
  module _ (whole : ℕ → Bool) (settled : Settled whole w) where
    abbrev m : ℕ → ℕ
    m = places_in (schedule w)

    bytes : PlanBytes w (schedule w)
    bytes = (plans_windows whole w formed settled.plan).plan

    -- an entry that has a minute has a place
    place_small : (t : ℕ) → t < w.h → (m t ≡ idle → ⊥) → m t < 64
    place_small t below entry = go (bytes.places t below)
      where
        go : (m t < w.n) ⊎ (m t ≡ idle) → m t < 64
        go (inl l) = omega arith
        go (inr e) = absurd (entry e)

    runs_short : length (run_lines w.h m) ≤ w.h * 13
    unfolding run_lines
    runs_short =
        texts_short w.h 13 _
        (λ t below.
        by_test (λ x. length x ≤ 13) (begins_run m t) (run_line t (run_end w.h m t) (m t)) []
        (λ b.
        run_short t (run_end w.h m t) (m t) (omega arith)
        (omega (arith, run_in_day w.h m t (omega arith)))
        (place_small t below (begins_entry m t b)))
        (λ _. omega arith))

-- A list that was read.
module _ (l : DayList) (formed : WellFormed l) where
  abbrev given : Windows
  given = windows_of l

  abbrev whole : ℕ → Bool
  whole = whole_in l

  law : NarrowLaw overload_of whole given (narrowing overload_of whole given)
  law = narrow_law overload_planner whole given (list_formed l formed)

  given_day : given.h ≤ 1440
  given_day = (sound_list l formed).header.one_day

  module _ (typed : Typed l) (v : Narrowed) (e : narrowing overload_of whole given ≡ answered v) where
    abbrev w : Windows
    w = v.windows

    best : Widest whole given w
    best = law.widest v e

    there : Formed w
    there = widest_formed whole given w (list_formed l formed) best

    day : w.h ≤ 1440
    day = omega (arith, ap (λ (x : Windows). x.h) best.entries, given_day)

    count : w.n ≡ given.n
    count = ap (λ (x : Windows). x.n) best.entries

    few : w.n ≤ 64
    few = omega (arith, count, list_few l formed)

    -- each move cuts a minute
    moves_small : v.moves ≤ 184320
    moves_small =
        let cut : minutes_cut given w ≤ given.n * 2880 = sum_most given.n 2880 _ each in
        omega (arith, law.moves_cut v e, list_few l formed)
      where
        each : (i : ℕ) → i < given.n → (w.r i - given.r i) + (given.d i - w.d i) ≤ 2880
        each i place =
            let here : i < w.n = omega (arith, count) in
            omega (arith, there.room i here, there.in_day i here, day, (list_formed l formed).in_day i place, given_day)

    -- the line of an entry
    abbrev line_of : ℕ → List ℕ
    line_of = entry_line_at (list_with l w) (least_end overload_of whole w) (greatest_start overload_of whole w)

    line_short : (i : ℕ) → i < w.n → length (line_of i) ≤ 56
    line_short i place =
        let in_list : i < given.n = omega (arith, count) in
        let below : i < l.n = omega (arith, length-take l.n l.entries) in
        let stored : get_or (entries_of l) i blank ≡ get_or l.entries i blank = get_or-take l.n l.entries i blank below in
        let room = there.room i place in
        let in_day = there.in_day i place in
        let same_p : w.p i ≡ given.p i = ap (λ (x : Windows). x.p i) best.entries in
        rw (listed_entry l w i in_list)
        (entry_line_short i (entry_with (get_or (entries_of l) i blank) (w.r i) (w.d i)) _ _ (omega (arith, few))
        (rw stored (typed.serial i))
        (rw stored (typed.seal i))
        (omega (arith, day))
        (omega (arith, day))
        (omega (arith, day))
        (omega (arith, day, (early_is overload_planner whole w there i place best.settled).end.within))
        (omega (arith, day, (late_is overload_planner whole w there i place best.settled).start.below)))

    listed_count : (list_with l w).n ≡ w.n
    unfolding list_with
    listed_count = with_length w 0 (entries_of l) ∙ sym count

    listed_day : (list_with l w).frame.h ≡ w.h
    unfolding list_with
    listed_day = sym (ap (λ (x : Windows). x.h) best.entries)

    entries_short : length (entry_lines (list_with l w) (least_end overload_of whole w) (greatest_start overload_of whole w)) ≤ 3584
    unfolding entry_lines
    entries_short =
        omega (arith, few, listed_count, texts_short (list_with l w).n 56 line_of (λ i place. line_short i (omega (arith, listed_count))))

    day_short : length (day_text l v) ≤ enough
    unfolding day_text
    day_short =
        let broken = broken_in whole w (places_in (schedule w)) in
        simp (length-append, listed_day, listed_count)
        (omega (
          arith,
          head_short w.h w.n v.moves broken day few moves_small (omega (arith, few, broken_few whole w (places_in (schedule w)))),
          entries_short,
          day,
          runs_short w there day few whole best.settled,
        ))

-- every text
pub report_short : (bs : List ℕ) → Bytes bs → (text : List ℕ) → report_of bs ≡ answered text → length text ≤ enough
unfolding report_of
report_short bs b text e = rw e at (read (read_of bs) refl)
  where
    Short : Outcome (List ℕ) → Type 0
    Short = Says (λ (text : List ℕ). length text ≤ enough) Anything

    read : (o : Outcome DayList) → read_of bs ≡ o → Short (and_then o planned_text)
    read (refused k) e = tt
    read (answered l) e = narrowed (narrowing overload_of (whole_in l) (windows_of l)) refl
      where
        narrowed : (o : Outcome Narrowed) → narrowing overload_of (whole_in l) (windows_of l) ≡ o
            → Short (and_then o (λ v. answered (day_text l v)))
        narrowed (refused k) q = tt
        narrowed (answered v) q = day_short l (read_well_formed bs l e) (read_typed bs l e b) v q
