-- The text of a list that was read, from what planning it answers.
-- Assumes nothing.
use mathlib.Core.Path.{◌≡◌, refl, sym, ap, subst, ◌∙◌}
use mathlib.Core.List.{List, ◌++◌}
use Prim.Native.Nat.{ℕ, ◌<◌, ◌≤◌}
use native.Mathlib.Omega.{arith}
use borrow.Author.Tests.{le-ltb}
use lib.ListN.{length, get_or, take, length-take}
use lib.Seq.{take-append_seam}
use Rattle.base.specs.Outcomes.{answered, refused}
use Rattle.base.proofs.Inversion.{answered_same}
use Rattle.list.specs.Refusals.{code_of}
use Rattle.list.specs.DayLists.{entries_of, whole_in}
use Rattle.list.specs.Checks.{WellFormed}
use Rattle.format.specs.Calls.{Reads}
use Rattle.list.specs.declared.types.Entry.{Entry}
use Rattle.list.specs.declared.types.DayList.{DayList}
use Rattle.list.specs.declared.types.Refusal.{Refusal}
use Rattle.std.specs.Prelude.{Err, Ok, Result}
use Rattle.list.proofs.Sound.{sound_list}
use Rattle.format.proofs.ReadLaws.{read_well_formed}
use Rattle.windows.specs.Windows.{Windows, windows_of}
use Rattle.windows.specs.Intervals.{overload_of}
use Rattle.windows.specs.Plans.{places_in}
use Rattle.jackson.specs.Minutes.{schedule}
use Rattle.narrow.specs.Rounds.{Narrowed, narrowing}
use Rattle.narrow.specs.Calls.{listed, entries_with, list_with}
use Rattle.bounds.specs.Ends.{least_end, greatest_start}
use Rattle.planner.specs.BrokenEntries.{broken_in}
use Rattle.planner.specs.Calls.{plan_checks, plan_of, ends_of, starts_of, broken_of, HoldsDay, PlansDay}
use Rattle.planner.specs.declared.types.PlannedDay.{PlannedDay}
use Rattle.list.proofs.ByPlace.{by_place_lem}
use Rattle.report.specs.Reports.{head_line, entry_lines, run_lines, day_text, planned_text, report_of}
use Rattle.report.specs.Internal.{Puts, PutsOr, answer_text}
use Rattle.report.proofs.Texts.{texts_same}

-- entries' lines look at the bounds of the list's own places alone
entries_same : (l : DayList) (e s f t : ℕ → ℕ) → ((i : ℕ) → i < l.n → e i ≡ f i) → ((i : ℕ) → i < l.n → s i ≡ t i)
    → entry_lines l e s ≡ entry_lines l f t
unfolding entry_lines
entries_same l e s f t ends starts = texts_same l.n _ _ (λ i below. rw (ends i below, starts i below))

-- Planning a well-formed list with a buffer that holds the longest day.
module _ (l : DayList) (well : WellFormed l) (old new : List ℕ) (long : length old ≡ 1440) where
  -- no row before 9 holds
  checked : plan_checks l (length old) ≡ answered tt
  unfolding plan_checks
  checked = rw well (simp (le-ltb (length old) l.frame.h (omega (arith, long, (sound_list l well).header.one_day))))

  -- so the call's outcome is that of narrowing
  outcome_is : plan_of l (length old) ≡ narrowing overload_of (whole_in l) (windows_of l)
  outcome_is = rw checked

  -- Rows 9 and 10.
  pub unplanned_is : (x : Refusal) → PlansDay l old (Err x) new → planned_text l ≡ refused (code_of x)
  unplanned_is x plans = rw (sym outcome_is ∙ sym plans.holds.narrowed) refl

  -- The list answered, its windows and bounds, and the plan's bytes.
  module _ (p : PlannedDay) (plans : PlansDay l old (Ok p) new) where
    abbrev w : Windows
    w = windows_of p.narrowed.list

    abbrev settled : Narrowed
    settled = record { windows = w; moves = p.narrowed.moves }

    answered_is : plan_of l (length old) ≡ answered settled
    answered_is = sym plans.holds.narrowed

    narrowed_is : narrowing overload_of (whole_in l) (windows_of l) ≡ answered settled
    narrowed_is = sym outcome_is ∙ answered_is

    held : HoldsDay (whole_in l) (plan_of l (length old)) (take l.frame.h new) p
    held = plans.day p refl

    pub planned_few : p.narrowed.list.n ≤ 64
    planned_few = (sound_list p.narrowed.list (plans.holds.keeps p.narrowed refl).formed).header.room

    list_is : p.narrowed.list ≡ list_with l w
    list_is = ap (λ (x : DayList × ℕ). x.0) (answered_same refl (plans.answers ∙ ap (listed l) answered_is))

    count_is : p.narrowed.list.n ≡ w.n
    unfolding list_with
    count_is = rw list_is (sym (ap (λ (es : List Entry). length es) (take-append_seam (entries_with w 0 (entries_of l)) _)))

    ends_are : (i : ℕ) → i < p.narrowed.list.n → get_or p.ends i 0 ≡ least_end overload_of (whole_in l) w i
    ends_are i below =
        ap (λ (xs : List ℕ). get_or xs i 0) (held.ends ∙ ap (ends_of (whole_in l)) answered_is)
        ∙ by_place_lem (least_end overload_of (whole_in l) w) w.n i (omega (arith, count_is, planned_few)) (omega (arith, count_is))

    starts_are : (i : ℕ) → i < p.narrowed.list.n → get_or p.starts i 0 ≡ greatest_start overload_of (whole_in l) w i
    starts_are i below =
        ap (λ (xs : List ℕ). get_or xs i 0) (held.starts ∙ ap (starts_of (whole_in l)) answered_is)
        ∙ by_place_lem (greatest_start overload_of (whole_in l) w) w.n i (omega (arith, count_is, planned_few)) (omega (arith, count_is))

    broken_is : p.broken ≡ broken_in (whole_in l) w (places_in (schedule w))
    broken_is = held.broken ∙ ap (broken_of (whole_in l)) answered_is

    abbrev bytes : List ℕ
    bytes = take l.frame.h new

    bytes_are : bytes ≡ schedule w
    bytes_are = held.demand2.minutes

    day_is : length bytes ≡ (list_with l w).frame.h
    day_is = held.demand2.plan.long ∙ ap (λ (x : DayList). x.frame.h) list_is

    pub bytes_long : l.frame.h ≡ length (take l.frame.h new)
    unfolding list_with
    bytes_long = sym day_is

    pub bytes_room : l.frame.h ≤ length new
    bytes_room = omega (arith, bytes_long, length-take l.frame.h new)

    entries_are : entry_lines p.narrowed.list (λ i. get_or p.ends i 0) (λ i. get_or p.starts i 0)
        ≡ entry_lines (list_with l w) (least_end overload_of (whole_in l) w) (greatest_start overload_of (whole_in l) w)
    entries_are =
        entries_same p.narrowed.list _ _ _ _ ends_are starts_are
        ∙ ap (λ (x : DayList). entry_lines x (least_end overload_of (whole_in l) w) (greatest_start overload_of (whole_in l) w)) list_is

    answer_text_lem : answer_text p bytes ≡ day_text l settled
    unfolding day_text
    answer_text_lem =
        λ j.
        head_line (list_is j).frame.h (list_is j).n p.narrowed.moves (broken_is j)
        ++ (entries_are j ++ run_lines (day_is j) (places_in (bytes_are j)))

    pub planned_put : {room : ℕ} {before after : List ℕ} → Puts room before (answer_text p bytes) after
        → PutsOr room (planned_text l) before (Ok tt) after
    planned_put {room} {before} {after} put =
        (day_text l settled, rw narrowed_is refl, subst (λ (t : List ℕ). Puts room before t after) answer_text_lem put)

-- Reading an input.
module _ (bs : List ℕ) where
  -- Rows 1 to 8, 14, 15 and 16.
  pub unread_is : (x : Refusal) → Reads bs (Err x) → report_of bs ≡ refused (code_of x)
  unfolding report_of
  unread_is x reads = rw (sym reads.outcome) refl

  module _ (l : DayList) (reads : Reads bs (Ok l)) where
    pub read_formed : WellFormed l
    read_formed = read_well_formed bs l (sym reads.outcome)

    pub read_put : (room : ℕ) (before after : List ℕ) (r : Result (Unit {0}) Refusal) → PutsOr room (planned_text l) before r after
        → PutsOr room (report_of bs) before r after
    unfolding report_of
    read_put room before after r p = rw (sym reads.outcome) p
