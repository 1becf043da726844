-- The fast way and the defined way refuse alike or agree, and the calls answer what both do.
-- Assumes nothing.
use mathlib.Core.Path.{◌≡◌, refl, ap, ◌∙◌, sym}
use mathlib.Core.Bool.{Bool}
use mathlib.Core.List.{List}
use Prim.Native.Nat.{ℕ, ◌<◌, ◌≤◌}
use borrow.Author.Tests.{le-ltb}
use lib.ListN.{length, take}
use lib.Seq.{take_at}
use Rattle.base.specs.Outcomes.{Outcome, answered, refused, and_then}
use Rattle.base.proofs.Inversion.{answered_refused, then_same}
use Rattle.list.specs.DayLists.{whole_in}
use Rattle.list.specs.Checks.{check_of, WellFormed}
use Rattle.list.specs.declared.types.DayList.{DayList}
use Rattle.list.specs.declared.types.Refusal.{Refusal}
use Rattle.list.specs.Refusals.{code_of}
use Rattle.std.specs.Prelude.{Result, Ok, Err}
use Rattle.windows.specs.Windows.{Windows, windows_of, with_r, with_d, Formed}
use Rattle.windows.specs.Mirrors.{mirror, mirror_bytes}
use Rattle.windows.specs.RunningSums.{LatestReleaseFirst}
use Rattle.windows.proofs.RunningSums.{some_releases}
use Rattle.windows.proofs.FormedLists.{list_formed}
use Rattle.jackson.specs.Minutes.{schedule}
use Rattle.jackson.specs.Calls.{buffer_fault}
use Rattle.jackson.proofs.Schedules.{schedule_long}
use Rattle.jackson.proofs.StretchBytes.{stretch_law}
use Rattle.windows.specs.Intervals.{overload_of}
use Rattle.narrow.specs.Settling.{SettledInside, Widest}
use Rattle.narrow.specs.Rounds.{Narrowed, narrowing}
use Rattle.narrow.specs.Calls.{settle_of, round_of, narrowed_in}
use Rattle.narrow.proofs.FastLaws.{fast_law}
use Rattle.narrow.proofs.MirrorSettled.{set_formed}
use Rattle.narrow.proofs.NarrowLaws.{narrow_law}
use Rattle.narrow.proofs.OverloadPlanner.{overload_planner}
use Rattle.bounds.specs.Ends.{least_ends, greatest_starts}
use Rattle.bounds.proofs.FastBounds.{end_same, start_same, fast_bounds}
use Rattle.bounds.specs.ShownPlans.{early_plan, late_plan, bound_of, shown_plan}
use Rattle.bounds.specs.declared.types.Shown.{Shown}
use Rattle.bounds.specs.declared.types.Shown.TheVariants.{Early, Late}
use Rattle.planner.specs.Calls.{plan_checks, narrow_after, planned, ends_of, starts_of, narrowed_by_plan, PlansDay}
use Rattle.planner.specs.FasterDays.{defined_told, defined_day, fast_told, fast_settle_of, fast_day, fast_round_of, fast_bound, fast_shown}
use Rattle.planner.specs.FasterDays.{told_of}
use Rattle.planner.specs.FasterDays.{FasterDays}
use Rattle.planner.specs.declared.types.PlannedDay.{PlannedDay}

module _ (l : DayList) where
  abbrev whole : ℕ → Bool
  whole = whole_in l

  abbrev given : Windows
  given = windows_of l

  -- what a day that is planned says
  planned_day : (v : Narrowed) → settle_of l ≡ answered v → WellFormed l × (narrowing overload_of whole given ≡ answered v)
  unfolding settle_of
  planned_day v e = go (check_of l) refl e
    where
      go : (o : Outcome (Unit {0})) → check_of l ≡ o → and_then o (λ _. narrowing overload_of whole given) ≡ answered v
          → WellFormed l × (narrowing overload_of whole given ≡ answered v)
      go (answered _) checked is = (checked, is)
      go (refused k) checked is = absurd (answered_refused is refl)

  module _ (v : Narrowed) (e : settle_of l ≡ answered v) where
    widest : Widest whole given v.windows
    widest =
        let day = planned_day v e in
        (narrow_law overload_planner whole given (list_formed l day.0)).widest v day.1

    settled_formed : Formed v.windows
    settled_formed =
        let w = v.windows in
        let set : SettledInside whole given w.r w.d =
        record { inside = rw widest.entries at widest.inside; settled = rw widest.entries at widest.settled } in
        rw widest.entries (set_formed whole given (list_formed l (planned_day v e).0) w.r w.d set)

    -- the bound and the plan that are shown of a place
    bound_same : (x : Shown) (k : ℕ) → k < v.windows.n → fast_bound x whole k v.windows ≡ bound_of x whole k v.windows
    bound_same Early k place = end_same whole v.windows settled_formed widest.settled.plan k place
    bound_same Late k place = start_same whole v.windows settled_formed widest.settled.plan k place

    shown_same : (x : Shown) (k : ℕ) → k < v.windows.n → fast_shown x whole k v.windows ≡ shown_plan x whole k v.windows
    shown_same Early k place =
        let w = v.windows in
        stretch_law.bytes (with_d w k (fast_bound Early whole k w)) settled_formed.few ∙ ap (early_plan w k) (bound_same Early k place)
    shown_same Late k place =
        let w = v.windows in
        ap (mirror_bytes w.h) (stretch_law.bytes (mirror (with_r w k (fast_bound Late whole k w))) settled_formed.few)
        ∙ ap (late_plan w k) (bound_same Late k place)

  module _ (order : Windows → ℕ → ℕ) (sorted : (w : Windows) → LatestReleaseFirst w (order w)) where
    narrowed_same : fast_settle_of order l ≡ settle_of l
    unfolding settle_of
    narrowed_same =
        then_same (check_of l) _ _ (λ _ checked. (fast_law whole given (list_formed l checked)).narrowed order sorted)

    day_same : fast_day order l ≡ defined_day l
    unfolding fast_day defined_day
    day_same =
        ap (λ (o : Outcome Narrowed). and_then o (λ v. answered (fast_told whole v))) narrowed_same
        ∙ then_same (settle_of l) (λ v. answered (fast_told whole v)) (λ v. answered (defined_told whole v))
        (λ v e.
        let w = v.windows in
        let formed = settled_formed v e in
        let bounds = fast_bounds whole w formed (widest v e).settled.plan in
        let bytes = stretch_law.bytes w formed.few in
        λ i. answered (record { narrowed = v; ends = bounds.ends i; starts = bounds.starts i; bytes = bytes i }))

    round_same : fast_round_of order l ≡ round_of l
    unfolding fast_round_of round_of
    round_same = then_same (check_of l) _ _ (λ _ checked. (fast_law whole given (list_formed l checked)).one_round order sorted)

  -- what a call tells whose buffer is long enough
  module _ (old : List ℕ) (a : Result PlannedDay Refusal) (new : List ℕ) (plans : PlansDay l old a new) (long : l.frame.h ≤ length old) where
    outcome_is : narrow_after (plan_checks l (length old)) l ≡ settle_of l
    unfolding plan_checks settle_of
    outcome_is = go (check_of l)
      where
        passed : buffer_fault l.frame.h (length old) ≡ answered tt
        passed = rw (le-ltb (length old) l.frame.h long) refl

        go : (o : Outcome (Unit {0}))
            → and_then (and_then o (λ _. buffer_fault l.frame.h (length old)))
            (λ _. narrowing overload_of whole given)
            ≡ and_then o (λ _. narrowing overload_of whole given)
        go (answered _) = ap (λ (x : Outcome (Unit {0})). and_then x (λ _. narrowing overload_of whole given)) passed
        go (refused k) = refl

    -- a refusal, and what is told beside the windows answered
    told_refused : (x : Refusal) → a ≡ Err x → told_of l a new ≡ defined_day l
    unfolding defined_day
    told_refused x e =
        let is : settle_of l ≡ refused (code_of x) =
        sym outcome_is ∙ sym plans.holds.narrowed ∙ ap (λ (b : Result PlannedDay Refusal). narrowed_in (narrowed_by_plan b)) e in
        rw (e, is) refl

    told_planned : (p : PlannedDay) → a ≡ Ok p → told_of l a new ≡ defined_day l
    unfolding defined_day
    told_planned p f =
        let v : Narrowed = record { windows = windows_of p.narrowed.list; moves = p.narrowed.moves } in
        let w = v.windows in
        let e : settle_of l ≡ answered v =
        sym outcome_is ∙ sym plans.holds.narrowed ∙ ap (λ (b : Result PlannedDay Refusal). narrowed_in (narrowed_by_plan b)) f in
        let is = outcome_is ∙ e in
        let day = plans.day p f in
        let ends : p.ends ≡ least_ends whole w = day.ends ∙ ap (ends_of whole) is in
        let starts : p.starts ≡ greatest_starts whole w = day.starts ∙ ap (starts_of whole) is in
        let long_day : w.h ≡ l.frame.h = ap (λ (u : Windows). u.h) (widest v e).entries in
        let bytes : take l.frame.h new ≡ schedule w =
        ap (take l.frame.h) (plans.buffer ∙ ap (planned schedule old) is)
        ∙ take_at (schedule w) _ l.frame.h (schedule_long w ∙ long_day) in
        let told : _ ≡ answered (defined_told whole v) =
        λ i. answered (record { narrowed = v; ends = ends i; starts = starts i; bytes = bytes i }) in
        rw (f, e) told

    told_same : told_of l a new ≡ defined_day l
    told_same = go a refl
      where
        go : (b : Result PlannedDay Refusal) → a ≡ b → told_of l a new ≡ defined_day l
        go (Ok p) e = told_planned p e
        go (Err x) e = told_refused x e

pub faster_days : FasterDays
faster_days =
    record {
      ordered = (λ w. (some_releases w).0, λ w. (some_releases w).1);
      days = λ order sorted l. day_same l order sorted;
      one_round = λ order sorted l. round_same l order sorted;
      bounds = bound_same;
      shown = shown_same;
      plans = told_same;
    }
