-- Demand 3 leaves one outcome, and of each place one least end, greatest start, early plan and late plan. Each call's contract leaves one
-- answer and one buffer, and the same for lists that are equal by the documents' rule.
-- Assumes nothing.
use mathlib.Core.Path.{◌≡◌, refl, sym, ap, ◌∙◌}
use mathlib.Core.Bool.{Bool}
use mathlib.Core.List.{List}
use Prim.Native.Nat.{ℕ, ◌<◌}
use native.Mathlib.Omega.{arith}
use lib.ListN.{length}
use Rattle.base.specs.Outcomes.{Outcome, answered}
use Rattle.list.specs.DayLists.{SameList}
use Rattle.list.specs.declared.types.DayList.{DayList}
use Rattle.list.specs.declared.types.Refusal.{Refusal}
use Rattle.std.specs.Prelude.{Result, Ok, Err}
use Rattle.windows.specs.Windows.{Windows}
use Rattle.narrow.specs.Rounds.{Narrowed}
use Rattle.narrow.specs.Calls.{listed, narrow_answer_of, AnswersAs}
use Rattle.narrow.specs.declared.types.NarrowedList.{NarrowedList}
use Rattle.list.proofs.Answered.{one_refusal, not_both}
use Rattle.base.proofs.Inversion.{answered_same, answered_refused, refused_same}
use Rattle.narrow.proofs.OneOutcome.{one_outcome}
use Rattle.narrow.proofs.Alike.{same_times}
use Rattle.bounds.specs.ShownPlans.{early_plan, late_plan}
use Rattle.planner.specs.Demand3.{Told, Demand3}
use Rattle.planner.specs.Calls.{narrowed_by_plan, PlansAfter, PlansDay, narrowed_by_shown, Shows}
use Rattle.planner.specs.declared.types.PlannedDay.{PlannedDay}
use Rattle.planner.specs.declared.types.ShownPlan.{ShownPlan}
use Rattle.bounds.specs.declared.types.Shown.{Shown}
use Rattle.list.proofs.Alike.{same_checked}
use Rattle.planner.proofs.Alike.{times_ends, times_starts, times_broken, times_plan, times_bound, times_shown_plan, same_planned}
use Rattle.planner.proofs.Alike.{same_shown}

-- Two answers of which demand 3 holds.
module _ {whole : ℕ → Bool} {w : Windows} (s t : Told) (a : Demand3 whole w s) (b : Demand3 whole w t) where
  pub one_told : s.outcome ≡ t.outcome
  one_told = one_outcome s.outcome t.outcome a.narrowing b.narrowing

  -- each bound is reached by the other's shown plan
  module _ (v : Narrowed) (e : s.outcome ≡ answered v) (k : ℕ) (place : k < w.n) where
    too : t.outcome ≡ answered v
    too = sym one_told ∙ e

    same_h : v.windows.h ≡ w.h
    same_h = ap (λ (u : Windows). u.h) (a.narrowing.widest v e).entries

    pub one_end : s.end k ≡ t.end k
    one_end =
        let x = a.early_is v e k place in
        let y = b.early_is v too k place in
        omega (
          arith,
          a.end_bound v e k place _ y.keeping (t.end k) (rw (← same_h) y.end),
          b.end_bound v too k place _ x.keeping (s.end k) (rw (← same_h) x.end),
        )

    pub one_start : s.start k ≡ t.start k
    one_start =
        let x = a.late_is v e k place in
        let y = b.late_is v too k place in
        omega (
          arith,
          a.start_bound v e k place _ y.keeping (t.start k) (rw (← same_h) y.start),
          b.start_bound v too k place _ x.keeping (s.start k) (rw (← same_h) x.start),
        )

    pub one_early : s.early k ≡ t.early k
    one_early = (a.early_is v e k place).rule ∙ ap (early_plan v.windows k) one_end ∙ sym (b.early_is v too k place).rule

    pub one_late : s.late k ≡ t.late k
    one_late = (a.late_is v e k place).rule ∙ ap (late_plan v.windows k) one_start ∙ sym (b.late_is v too k place).rule

-- Two answers of narrowing.
one_list : (x y : Result NarrowedList Refusal) → narrow_answer_of x ≡ narrow_answer_of y → x ≡ y
one_list (Ok u) (Ok v) e =
    let same : ◌≡◌ {A = DayList × ℕ} (u.list, u.moves) (v.list, v.moves) = answered_same refl e in
    λ i. Ok (record { list = (same i).0; moves = (same i).1 })
one_list (Ok u) (Err y) e = absurd (answered_refused refl e)
one_list (Err x) (Ok v) e = absurd (answered_refused refl (sym e))
one_list (Err x) (Err y) e = ap Err (one_refusal x y (refused_same refl e))

one_narrowed : (a b : DayList) (o u : Outcome Narrowed) → listed a o ≡ listed b u → (x y : Result NarrowedList Refusal)
    → AnswersAs a o x → AnswersAs b u y → x ≡ y
one_narrowed a b o u same x y p q = one_list x y (p ∙ same ∙ sym q)

-- so of planning and of showing a plan, if what stands beside the list is the same
plan_by_parts : (x y : Result PlannedDay Refusal) → narrowed_by_plan x ≡ narrowed_by_plan y
    → ((p q : PlannedDay) → x ≡ Ok p → y ≡ Ok q → (p.broken ≡ q.broken) × (p.ends ≡ q.ends) × (p.starts ≡ q.starts)) → x ≡ y
plan_by_parts (Ok p) (Ok q) e parts =
    let same : p.narrowed ≡ q.narrowed = cc e in
    let z = parts p q refl refl in
    λ i. Ok (record { narrowed = same i; broken = z.0 i; ends = z.1 i; starts = z.2 i })
plan_by_parts (Ok p) (Err y) e parts = absurd (not_both refl e)
plan_by_parts (Err x) (Ok q) e parts = absurd (not_both refl (sym e))
plan_by_parts (Err x) (Err y) e parts = let same : x ≡ y = cc e in ap Err same

shown_by_parts : (x y : Result ShownPlan Refusal) → narrowed_by_shown x ≡ narrowed_by_shown y
    → ((p q : ShownPlan) → x ≡ Ok p → y ≡ Ok q → p.bound ≡ q.bound) → x ≡ y
shown_by_parts (Ok p) (Ok q) e parts =
    let same : p.narrowed ≡ q.narrowed = cc e in
    λ i. Ok (record { narrowed = same i; bound = parts p q refl refl i })
shown_by_parts (Ok p) (Err y) e parts = absurd (not_both refl e)
shown_by_parts (Err x) (Ok q) e parts = absurd (not_both refl (sym e))
shown_by_parts (Err x) (Err y) e parts = let same : x ≡ y = cc e in ap Err same

-- Two answers of planning one list after the same checks.
pub one_planned : {checks : Outcome (Unit {0})} {l : DayList} {old : List ℕ} {x y : Result PlannedDay Refusal} {new other : List ℕ}
    → PlansAfter checks l old x new → PlansAfter checks l old y other → (x ≡ y) × (new ≡ other)
one_planned {checks} {l} {old} {x} {y} p q = (
  plan_by_parts x y (one_narrowed l l _ _ refl _ _ p.answers q.answers)
      (λ u v e f.
      let a = p.day u e in
      let b = q.day v f in
      (a.broken ∙ sym b.broken, a.ends ∙ sym b.ends, a.starts ∙ sym b.starts)),
  p.buffer ∙ sym q.buffer,
)

-- Lists that are equal by the documents' rule, a list and itself among them, and two answers of each call.
module _ {a b : DayList} (s : SameList a b) where
  pub one_plan : (old : List ℕ) (x y : Result PlannedDay Refusal) (new other : List ℕ) → PlansDay a old x new → PlansDay b old y other
      → (x ≡ y) × (new ≡ other)
  one_plan old x y new other p q =
      let room = length old in
      let times = same_times s in
      let checked = same_checked s in (
        plan_by_parts x y (one_narrowed a b _ _ (same_planned s room) _ _ p.answers q.answers)
            (λ u v e f.
            let c = p.day u e in
            let d = q.day v f in (
              c.broken ∙ times_broken times checked room ∙ sym d.broken,
              c.ends ∙ times_ends times checked room ∙ sym d.ends,
              c.starts ∙ times_starts times checked room ∙ sym d.starts,
            )),
        p.buffer ∙ times_plan times checked old ∙ sym q.buffer,
      )

  pub one_shown : (shown : Shown) (k : ℕ) (old : List ℕ) (x y : Result ShownPlan Refusal) (new other : List ℕ)
      → Shows shown a k old x new → Shows shown b k old y other → (x ≡ y) × (new ≡ other)
  one_shown shown k old x y new other p q =
      let room = length old in
      let times = same_times s in
      let checked = same_checked s in (
        shown_by_parts x y (one_narrowed a b _ _ (same_shown s k room) _ _ p.answers q.answers)
            (λ u v e f. p.bound u e ∙ times_bound times checked shown k room ∙ sym (q.bound v f)),
        p.buffer ∙ times_shown_plan times checked shown k old ∙ sym q.buffer,
      )
