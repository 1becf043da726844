-- The rows of the calls that narrow, and what they leave in a plan buffer, in facts.
-- Assumes nothing.
use mathlib.Core.Path.{◌≡◌, refl, ap, ◌∙◌}
use mathlib.Core.Bool.{Bool}
use mathlib.Core.List.{List, ◌++◌}
use Prim.Native.Nat.{ℕ, ◌+◌, ◌-◌, ◌≤◌}
use native.Mathlib.Omega.{arith}
use borrow.Author.Tests.{lt-ltb, le-ltb, le-leb, lt-leb}
use lib.ListN.{length, get_or, drop, length-append, length-drop}
use lib.Seq.{take_at, get_or-append-add, get_or-drop}
use Rattle.base.specs.Outcomes.{Outcome, answered}
use Rattle.list.specs.declared.types.DayList.{DayList}
use Rattle.windows.specs.Windows.{Windows}
use Rattle.jackson.specs.Minutes.{schedule}
use Rattle.narrow.specs.Rounds.{Narrowed}
use Rattle.narrow.specs.Calls.{settle_of}
use Rattle.bounds.specs.ShownPlans.{shown_plan}
use Rattle.bounds.specs.declared.types.Shown.{Shown}
use Rattle.bounds.specs.declared.types.Shown.TheVariants.{Early, Late}
use Rattle.planner.specs.Calls.{plan_checks, shown_checks, planned, BufferLaw, CallRowsLaw}
use Rattle.base.proofs.Listed.{list_length}
use Rattle.jackson.proofs.Schedules.{schedule_long}

pub call_rows_law : (l : DayList) (k room : ℕ) → CallRowsLaw l k room
unfolding plan_checks shown_checks settle_of
call_rows_law l k room =
    record {
      before = λ c e. (rw e refl, rw e refl);
      unknown = λ w h. rw (w, le-leb _ _ h) refl;
      plan_short = λ w h. rw (w, lt-ltb _ _ h) refl;
      shown_short = λ w p h. rw (w, lt-leb _ _ p, lt-ltb _ _ h) refl;
      plan_then = λ w h. rw (w, le-ltb _ _ h) refl;
      shown_then = λ w p h. rw (w, lt-leb _ _ p, le-ltb _ _ h) refl;
    }

-- for plans of H bytes, as the schedule and the plans shown are
module _ (f : Windows → List ℕ) (long : (w : Windows) → length (f w) ≡ w.h) (old : List ℕ) (o : Outcome Narrowed) where
  pub buffer_law : BufferLaw f old o
  buffer_law =
      record {
        stays = λ c e. rw e refl;
        plan = λ v e. rw e (take_at (f v.windows) _ v.windows.h (long v.windows));
        long = λ v e h.
            rw e (length-append (f v.windows) _ ∙ rw (long v.windows, length-drop v.windows.h old) (omega arith));
        after = after;
      }
    where
      after : (v : Narrowed) → o ≡ answered v → (j : ℕ) → v.windows.h ≤ j → get_or (planned f old o) j 0 ≡ get_or old j 0
      after v e j h =
          let w = v.windows in
          let split : j ≡ length (f w) + (j - w.h) = omega (arith, long w) in
          let back : w.h + (j - w.h) ≡ j = omega arith in
          rw e
          (ap (λ (i : ℕ). get_or (f w ++ drop w.h old) i 0) split
          ∙ get_or-append-add (f w) (drop w.h old) (j - w.h) 0
          ∙ get_or-drop w.h old (j - w.h) 0
          ∙ ap (λ (i : ℕ). get_or old i 0) back)

-- so the buffer holds what is to be there after planning, and after showing a plan
pub plan_buffer : (old : List ℕ) (o : Outcome Narrowed) → BufferLaw schedule old o
plan_buffer = buffer_law schedule schedule_long

pub shown_buffer : (x : Shown) (whole : ℕ → Bool) (k : ℕ) (old : List ℕ) (o : Outcome Narrowed) → BufferLaw (shown_plan x whole k) old o
shown_buffer Early whole k = buffer_law _ (λ w. schedule_long _)
shown_buffer Late whole k = buffer_law _ (λ w. list_length _ _)
