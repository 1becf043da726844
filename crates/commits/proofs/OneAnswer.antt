-- Days that are equal by the documents' rule get equal answers, and each call's contract leaves one answer.
-- Assumes nothing.
use mathlib.Core.Path.{◌≡◌, refl, sym, ap, ◌∙◌}
use mathlib.Core.List.{List, [], ◌∷◌, ◌++◌}
use Prim.Native.Nat.{ℕ}
use lib.ListN.{length}
use Rattle.base.specs.Outcomes.{Outcome, answered, refused, and_then}
use Rattle.list.specs.DayLists.{day_list, SameList}
use Rattle.list.specs.declared.types.Entry.{Entry}
use Rattle.list.specs.declared.types.DayList.{DayList}
use Rattle.list.proofs.Alike.{same_checked}
use Rattle.list.proofs.Answered.{one_answer}
use Rattle.list.specs.declared.types.Refusal.{Refusal}
use Rattle.std.specs.Prelude.{Result}
use Rattle.narrow.specs.Rounds.{Narrowed}
use Rattle.narrow.proofs.Alike.{same_times}
use Rattle.planner.specs.Calls.{plan_checks, plan_of, planning, narrow_after}
use Rattle.planner.proofs.Alike.{times_planned}
use Rattle.planner.proofs.OneAnswer.{one_planned}
use Rattle.commits.specs.Days.{trimmed, with_entry, next_stamp}
use Rattle.commits.specs.Calls.{fresh_of, ask_fault, commit_fault, commit_of, day_after, MakesDay, SameDay, Asks, Commits}
use Rattle.commits.specs.declared.types.StampedDay.{StampedDay}
use Rattle.commits.specs.declared.types.AskAnswer.{AskAnswer}
use Rattle.commits.specs.declared.types.CommitAnswer.{CommitAnswer}

module _ {a b : DayList} (s : SameList a b) where
  same_trimmed : trimmed a ≡ trimmed b
  same_trimmed = λ j. day_list (s.frame j) (s.entries j)

  pub same_longer : (e : Entry) → with_entry a e ≡ with_entry b e
  same_longer e = λ j. day_list (s.frame j) (s.entries j ++ (e ∷ []))

  same_fresh : fresh_of a ≡ fresh_of b
  same_fresh =
      let plans : planning a ≡ planning b =
      times_planned (same_times s) (same_checked s) a.frame.h ∙ (λ j. plan_of b (s.frame j).h) in
      λ j. and_then (plans j) (λ _. answered (record { list = same_trimmed j; stamp = 0 }))

  pub one_fresh : (x y : Result StampedDay Refusal) → MakesDay a x → MakesDay b y → x ≡ y
  one_fresh x y p q = one_answer x y (p ∙ same_fresh ∙ sym q)

module _ {a b : StampedDay} (s : SameDay a b) where
  same_ask : ask_fault a ≡ ask_fault b
  same_ask = rw (s.list.n, s.stamp) refl

  same_commit : (k : ℕ) → commit_fault a k ≡ commit_fault b k
  same_commit k = rw (s.list.n, s.stamp) refl

  pub one_ask : (e : Entry) (old : List ℕ) (x y : AskAnswer) (new other : List ℕ) → Asks a e old x new → Asks b e old y other
      → (x ≡ y) × (new ≡ other)
  one_ask e old x y new other p q =
      let z = one_planned (rw (same_ask, same_longer s.list e) at p.plans) q.plans in
      let stamps : x.stamp ≡ y.stamp = p.stamp ∙ s.stamp ∙ sym q.stamp in
      (λ i. record { planned = z.0 i; stamp = stamps i }, z.1)

  after_same : (e : Entry) (o : Outcome Narrowed) → SameDay (day_after a e o) (day_after b e o)
  after_same e (refused k) = s
  after_same e (answered v) =
      record {
        list = rw (same_longer s.list e) (record { frame = refl; n = refl; entries = refl });
        stamp = ap next_stamp s.stamp;
      }

  pub one_commit : (e : Entry) (k : ℕ) (old : List ℕ) (x y : CommitAnswer) (new other : List ℕ)
      → Commits a e k old x new → Commits b e k old y other
      → (x.planned ≡ y.planned) × (x.stamp ≡ y.stamp) × SameDay x.day y.day × (new ≡ other)
  one_commit e k old x y new other p q =
      let z = one_planned (rw (same_commit k, same_longer s.list e) at p.plans) q.plans in
      let longer = same_longer s.list e in
      let o : commit_of a e k (length old) ≡ commit_of b e k (length old) =
      (λ j. narrow_after (and_then (same_commit k j) (λ _. plan_checks (longer j) (length old))) (longer j)) in
      let days : SameDay x.day y.day = rw (p.day, q.day, o) (after_same e (commit_of b e k (length old))) in
      (z.0, p.stamp ∙ days.stamp ∙ sym q.stamp, days, z.1)
