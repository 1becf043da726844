-- What an ask and a commit answer and leave, in facts.
-- Assumes nothing.
use mathlib.Core.Path.{◌≡◌, refl, sym, ap, ◌∙◌}
use mathlib.Core.List.{List}
use Prim.Native.Nat.{ℕ}
use native.Mathlib.Omega.{arith}
use lib.ListN.{length}
use Rattle.list.specs.declared.types.Entry.{Entry}
use Rattle.std.specs.Prelude.{Result, Ok, Err}
use Rattle.list.specs.declared.types.Refusal.{Refusal}
use Rattle.base.specs.Outcomes.{Outcome}
use Rattle.list.specs.declared.types.DayList.{DayList}
use Rattle.narrow.specs.Calls.{narrowed_in}
use Rattle.planner.specs.Calls.{narrow_after, narrowed_by_plan, PlansAfter}
use Rattle.planner.specs.declared.types.PlannedDay.{PlannedDay}
use Rattle.commits.specs.Days.{with_entry, next_stamp}
use Rattle.commits.specs.Calls.{commit_of, day_after, Succeeds, Asks, Commits}
use Rattle.commits.specs.Laws.{AskLaw, CommitLaw}
use Rattle.commits.specs.declared.types.StampedDay.{StampedDay}
use Rattle.commits.specs.declared.types.AskAnswer.{AskAnswer}
use Rattle.commits.specs.declared.types.CommitAnswer.{CommitAnswer}
use Rattle.commits.proofs.EntryLaws.{entries_are}

-- what planning answered tells of the outcome
pub planned_so : {checks : Outcome (Unit {0})} {l : DayList} {old : List ℕ} {a : Result PlannedDay Refusal} {new : List ℕ}
    → PlansAfter checks l old a new → (b : Result PlannedDay Refusal) → a ≡ b → narrow_after checks l ≡ narrowed_in (narrowed_by_plan b)
planned_so plans b e = sym plans.holds.narrowed ∙ ap (λ (c : Result PlannedDay Refusal). narrowed_in (narrowed_by_plan c)) e

pub ask_law : {d : StampedDay} {e : Entry} {old new : List ℕ} {a : AskAnswer} → Asks d e old a new → AskLaw d old a new
ask_law w = record { stays = λ x q. w.plans.buffer ∙ rw (planned_so w.plans (Err x) q) refl; stamp = w.stamp }

module _ {d : StampedDay} {e : Entry} {s : ℕ} {old new : List ℕ} {a : CommitAnswer} (w : Commits d e s old a new) where
  pub outcome : (b : Result PlannedDay Refusal) → a.planned ≡ b → commit_of d e s (length old) ≡ narrowed_in (narrowed_by_plan b)
  outcome b q = planned_so w.plans b q

  pub day_is : (b : Result PlannedDay Refusal) → a.planned ≡ b → a.day ≡ day_after d e (narrowed_in (narrowed_by_plan b))
  day_is b q = w.day ∙ ap (day_after d e) (outcome b q)

  pub longer_is : Succeeds a.planned → a.day ≡ record { list = with_entry d.list e; stamp = next_stamp d.stamp }
  longer_is (p, q) = day_is (Ok p) q

  pub commit_law : CommitLaw d e old a new
  commit_law =
      record {
        stays = λ x q. (day_is (Err x) q, w.plans.buffer ∙ rw (outcome (Err x) q) refl, w.stamp ∙ rw (day_is (Err x) q) refl);
        frame = λ q. rw (longer_is q) refl;
        entries = λ q. rw (longer_is q) (entries_are d.list.frame _);
        counts = λ q below. w.stamp ∙ rw (longer_is q) (omega (arith, below));
        largest = λ q at. w.stamp ∙ rw (longer_is q) (omega (arith, at));
        stamp = w.stamp;
      }
