-- The public calls in each case that the code meets.
-- Assumes nothing.
use mathlib.Core.Path.{◌≡◌, refl, sym, ◌∙◌, ap}
use mathlib.Core.List.{List, ◌++◌}
use Prim.Native.Nat.{ℕ, ◌<◌, ◌≤◌}
use native.Mathlib.Omega.{arith}
use borrow.Author.Tests.{lt-ltb, le-ltb}
use lib.ListN.{length, take, drop}
use lib.Seq.{take_at}
use Rattle.base.specs.Outcomes.{Code, Outcome, answered, refused}
use Rattle.base.proofs.Inversion.{answered_refused, refused_same}
use Rattle.list.specs.Refusals.{outcome_of}
use Rattle.list.specs.Checks.{check_of}
use Rattle.list.specs.declared.types.Refusal.{Refusal}
use Rattle.list.specs.declared.types.Refusal.TheVariants.{PlanBufferShort}
use Rattle.std.specs.Prelude.{Err, Ok, Result}
use Rattle.list.specs.declared.types.DayList.{DayList}
use Rattle.base.specs.Counting.{list_of}
use Rattle.windows.specs.Windows.{Windows, windows_of, windows_in}
use Rattle.windows.specs.Intervals.{overload_of}
use Rattle.windows.specs.Calls.{Holds}
use Rattle.windows.specs.declared.types.WindowSet.{WindowSet}
use Rattle.jackson.specs.Minutes.{State, state_in, day_start, chosen, place_at, schedule}
use Rattle.jackson.specs.Calls.{Tests, test_of, Advances, Starts, Fills, FillsWindows, fill_of, plan_after}
use Rattle.jackson.specs.Internal.{IsAfter, Fillable}
use Rattle.jackson.specs.declared.types.Day.{Day}
use Rattle.base.proofs.Listed.{list_length}
use Rattle.jackson.proofs.Choices.{chosen_takes}
use Rattle.jackson.proofs.Schedules.{minute_on, minute_over}
use Rattle.jackson.proofs.ListLaws.{test_decides, fill_decides, fill_plans}

-- a minute of a day past its end, and of one that goes on
module _ (day : Day) where
  pub advances_over : day.windows.h ≤ day.t → Advances day (record { place = 255; day = day })
  advances_over h =
      let e = minute_over (state_in day) h in
      record { place = rw e refl; takes = λ on. absurd (omega arith); next = rw e refl; n = refl }

  pub advances_on : (next : Day) (k : ℕ) → day.t < day.windows.h → k ≡ chosen (state_in day) → IsAfter day k next
      → Advances day (record { place = k; day = next })
  advances_on next k h place step =
      let e = minute_on (state_in day) h in
      record {
        place = rw e place;
        takes = λ _. rw place (chosen_takes (state_in day) (omega arith));
        next = rw e (rw (← place) step.state);
        n = step.n;
      }

-- starting a day
module _ (l : DayList) where
  pub not_started : (a : Result Day Refusal) {k : Code} → outcome_of a ≡ refused k → refused k ≡ check_of l → Starts l a
  not_started a says w =
      record {
        refuses = λ j e. says ∙ ap refused (refused_same (sym w) e);
        starts = λ fine. absurd (answered_refused fine (sym w));
      }

  pub started : answered tt ≡ check_of l → (w : WindowSet) → Holds l w → (day : Day) → day ≡ record { windows = w; t = 0; last = 255 }
      → Starts l (Ok day)
  started fine w holds day first =
      record {
        refuses = λ k e. absurd (answered_refused (sym fine) e);
        starts = λ _. (day, refl, rw first (ap day_start holds.windows), rw first holds.n);
      }

  -- the day begun is the list's
  module _ (day : Day) (starts : Starts l (Ok day)) where
    pub begun_formed : check_of l ≡ answered tt
    begun_formed = formed _ refl
      where
        formed : (o : Outcome (Unit {0})) → check_of l ≡ o → check_of l ≡ answered tt
        formed (answered _) e = e
        formed (refused k) e = absurd (answered_refused refl (starts.refuses k e))

    pub begun_state : state_in day ≡ day_start (windows_of l)
    begun_state = let s = starts.starts begun_formed in let same : day ≡ s.0 = cc s.1 in rw same s.2

tests_of : (l : DayList) (v : Result (Unit {0}) Refusal) → outcome_of v ≡ test_of l → Tests l v
tests_of l v e = record { outcome = e; decides = rw e (test_decides l) }

-- the overload test
module _ (l : DayList) (v : Result (Unit {0}) Refusal) where
  pub not_tested : {k : Code} → outcome_of v ≡ refused k → refused k ≡ check_of l → Tests l v
  unfolding test_of
  not_tested says w = tests_of l v (rw (← w) says)

  pub tested : answered tt ≡ check_of l → (w : WindowSet) → Holds l w → outcome_of v ≡ overload_of (windows_in w) → Tests l v
  unfolding test_of
  tested fine w holds test = tests_of l v (rw (← fine) (test ∙ ap overload_of holds.windows))

-- what a call fills, from its outcome and the buffer
fills_of : (l : DayList) (old : List ℕ) (v : Result (Unit {0}) Refusal) (new : List ℕ) → outcome_of v ≡ fill_of l (length old)
    → new ≡ plan_after (fill_of l (length old)) (windows_of l) old → Fills l old v new
unfolding schedule
fills_of l old v new e b =
    record {
      outcome = e;
      buffer = b;
      decides = rw e (fill_decides l (length old));
      plan = λ done. rw (bytes (sym e ∙ done)) (fill_plans l (length old) (sym e ∙ done)).0;
      follows = λ done. rw (bytes (sym e ∙ done)) (fill_plans l (length old) (sym e ∙ done)).1;
    }
  where
    h : ℕ
    h = l.frame.h

    front : take h (schedule (windows_of l) ++ drop h old) ≡ schedule (windows_of l)
    front = take_at (schedule (windows_of l)) (drop h old) h (list_length h (place_at (day_start (windows_of l))))

    bytes : fill_of l (length old) ≡ answered tt → take h new ≡ schedule (windows_of l)
    bytes z = rw (b, z) front

-- filling a plan buffer
module _ (l : DayList) (old : List ℕ) where
  pub not_filled : (v : Result (Unit {0}) Refusal) {k : Code} (a : Result Day Refusal) → outcome_of v ≡ refused k → refused k ≡ outcome_of a
      → Starts l a → Fills l old v old
  unfolding fill_of
  not_filled v a says from starts = go _ refl
    where
      go : (o : Outcome (Unit {0})) → check_of l ≡ o → Fills l old v old
      go (answered _) e = absurd (answered_refused {o = outcome_of a} (ap outcome_of (starts.starts e).1) (sym from))
      go (refused j) e = fills_of l old v old (rw e (says ∙ ap refused (refused_same (sym from) (starts.refuses j e)))) (rw e refl)

  module _ (day : Day) (starts : Starts l (Ok day)) where
    begins : state_in day ≡ day_start (windows_of l)
    begins = begun_state l day starts

    tests : overload_of (windows_in day.windows) ≡ overload_of (windows_of l)
    tests = ap (λ (s : State). overload_of s.windows) begins

    -- the whole day is left
    pub day_fillable : l.frame.h ≤ length old → Fillable day l.frame.h (length old)
    day_fillable room =
        let time = ap (λ (s : State). s.t) begins in
        let end = ap (λ (s : State). s.windows.h) begins in
        record { room = room; rest = omega arith }

    pub fill_too_short : length old < l.frame.h → Fills l old (Err (PlanBufferShort l.frame.h)) old
    unfolding fill_of
    fill_too_short h =
        let z = lt-ltb (length old) l.frame.h h in
        let fine = begun_formed l day starts in
        fills_of l old _ _ (rw (fine, z) refl) (rw (fine, z) refl)

    module _ (h : l.frame.h ≤ length old) where
      pub not_planned : (v : Result (Unit {0}) Refusal) {k : Code} → outcome_of v ≡ refused k
          → refused k ≡ overload_of (windows_in day.windows) → Fills l old v old
      unfolding fill_of
      not_planned v says test =
          let z = le-ltb (length old) l.frame.h h in
          let fine = begun_formed l day starts in
          let nine = sym tests ∙ sym test in
          fills_of l old _ _ (rw (fine, z, nine) says) (rw (fine, z, nine) refl)

      pub fill_planned : (new : List ℕ) → answered tt ≡ overload_of (windows_in day.windows)
          → new ≡ list_of l.frame.h (place_at (state_in day)) ++ drop l.frame.h old → Fills l old (Ok tt) new
      unfolding fill_of schedule
      fill_planned new test bytes =
          let z = le-ltb (length old) l.frame.h h in
          let fine = begun_formed l day starts in
          let nine = sym tests ∙ sym test in
          fills_of l old _ _ (rw (fine, z, nine) refl) (rw (fine, z, nine) (rw (← begins) bytes))

-- of a day's first state the whole day is left
pub start_fillable : (w : WindowSet) (day : Day) → day ≡ record { windows = w; t = 0; last = 255 } → (room : ℕ) → w.h ≤ room
    → Fillable day w.h room
start_fillable w day e room h = rw e (record { room = h; rest = omega arith })

-- filling it with the schedule of windows that are not tested
module _ (w : Windows) (old : List ℕ) where
  pub fill_no_room : length old < w.h → FillsWindows w old (Err (PlanBufferShort w.h)) old
  fill_no_room h = let z = lt-ltb (length old) w.h h in record { outcome = rw z refl; buffer = rw z refl }

  pub fill_room : (new : List ℕ) → w.h ≤ length old → new ≡ list_of w.h (place_at (day_start w)) ++ drop w.h old
      → FillsWindows w old (Ok tt) new
  unfolding schedule
  fill_room new h bytes = let z = le-ltb (length old) w.h h in record { outcome = rw z refl; buffer = rw z bytes }
