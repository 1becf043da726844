-- The contracts of the calls, from the equalities of what they answer and store.
-- Assumes nothing.
use mathlib.Core.Path.{◌≡◌, refl, sym, ap, subst, ◌∙◌}
use mathlib.Core.Bool.{Bool, cond}
use mathlib.Core.List.{List}
use Prim.Native.Nat.{ℕ, ◌<◌}
use native.Mathlib.Omega.{arith}
use borrow.Author.Tests.{eq-eqb, ne_eqb}
use lib.Dec.{eqb}
use lib.ListN.{length, get_or, take}
use lib.Seq.{take_at}
use Rattle.base.specs.Outcomes.{Outcome, answered, refused}
use Rattle.base.proofs.Sums.{same_cases}
use Rattle.list.specs.DayLists.{whole_in, marked, by_place}
use Rattle.list.specs.Refusals.{code_of}
use Rattle.list.specs.Checks.{WellFormed}
use Rattle.list.specs.declared.types.Refusal.{Refusal}
use Rattle.list.proofs.Answered.{the_ok, not_both}
use Rattle.std.specs.Prelude.{Result, Ok, Err}
use Rattle.list.specs.declared.types.DayList.{DayList}
use Rattle.windows.specs.Windows.{Windows, windows_of, windows_in}
use Rattle.windows.specs.Plans.{places_in}
use Rattle.windows.specs.Intervals.{overload_of}
use Rattle.jackson.specs.Minutes.{schedule}
use Rattle.jackson.specs.Calls.{FillsWindows}
use Rattle.narrow.specs.declared.types.NarrowedWindows.{NarrowedWindows}
use Rattle.narrow.specs.Calls.{narrowed_in}
use Rattle.narrow.specs.declared.types.NarrowedList.{NarrowedList}
use Rattle.windows.proofs.FormedLists.{list_formed}
use Rattle.bounds.specs.Ends.{least_end, greatest_start}
use Rattle.bounds.specs.ShownPlans.{early_plan, late_plan, bound_of, shown_plan}
use Rattle.bounds.specs.Calls.{HoldsBounds, StoresPlan}
use Rattle.bounds.specs.declared.types.Shown.{Shown}
use Rattle.bounds.specs.declared.types.Shown.TheVariants.{Early, Late}
use Rattle.bounds.specs.declared.types.Bounds.{Bounds}
use Rattle.list.proofs.ByPlace.{by_place_lem}
use Rattle.jackson.proofs.Schedules.{schedule_long}
use Rattle.bounds.proofs.ShownFacts.{shown_long}
use Rattle.planner.specs.BrokenEntries.{broken_in}
use Rattle.planner.specs.Demand3.{Told, Demand3}
use Rattle.planner.specs.Calls.{plan_checks, shown_checks, narrow_after, settled_or, planned, ends_of, starts_of, broken_of, told_by_plan}
use Rattle.planner.specs.Calls.{narrowed_by_plan, HoldsDay, PlansAfter, PlansDay, shown_of, put_shown, narrowed_by_shown, told_by_shown}
use Rattle.planner.specs.Calls.{Shows}
use Rattle.planner.specs.Internal.{NarrowsAfter}
use Rattle.planner.specs.declared.types.PlannedDay.{PlannedDay}
use Rattle.planner.specs.declared.types.ShownPlan.{ShownPlan}
use Rattle.planner.proofs.Demands.{AtPlace, ByRules, demand3}
use Rattle.planner.proofs.CallCases.{plan_formed, shown_plan_lem, shown_formed, narrows_not, IsSettled, is_settled, windows_told}
use Rattle.planner.proofs.CallCases.{settled_few, settled_day, settled_plan, Planning, place_in, ends_are, starts_are, plan_is}
use Rattle.planner.proofs.CallCases.{broken_is, shown_some, shown_bound, shown_stored}

-- demand 3 of a call that narrowed after checks that were passed
told_demand : {checks : Outcome (Unit {0})} {l : DayList} {a : Result NarrowedList Refusal} → NarrowsAfter checks l a
    → (checks ≡ answered tt → WellFormed l) → (told : Told) → told.outcome ≡ narrowed_in a
    → ((u : NarrowedList) → a ≡ Ok u → IsSettled checks l u → (k : ℕ) → k < (windows_of u.list).n
    → AtPlace (whole_in l) (windows_of u.list) told k)
    → checks ≡ answered tt → Demand3 (whole_in l) (windows_of l) told
told_demand {checks} {l} {a} after formed told is each passed =
    demand3 (whole_in l) (windows_of l) (list_formed l (formed passed)) told (is ∙ after.holds.narrowed ∙ rw passed refl) rules
  where
    rules : ByRules (whole_in l) told
    rules v e k place =
        let answer = windows_told a v (sym is ∙ e) in
        let count : (windows_of answer.0.list).n ≡ v.windows.n = ap (λ (w : Windows). w.n) answer.2 in
        rw (← answer.2) (each answer.0 answer.1 (is_settled after answer.0 answer.1 formed) k (omega (arith, count, place)))

-- Planning.
plan_outcome : (a : Result PlannedDay Refusal) → (told_by_plan a).outcome ≡ narrowed_in (narrowed_by_plan a)
plan_outcome (Ok p) = refl
plan_outcome (Err x) = refl

module _ (checks : Outcome (Unit {0})) (l : DayList) (formed : checks ≡ answered tt → WellFormed l) (old : List ℕ) where
  -- the checks or narrowing refused
  pub plan_refused : (a : Result PlannedDay Refusal) (x : Refusal) → a ≡ Err x → narrow_after checks l ≡ refused (code_of x)
      → PlansAfter checks l old a old
  plan_refused a x e is =
      let turned : narrowed_by_plan a ≡ Err x = ap narrowed_by_plan e in
      let after = narrows_not checks l formed (narrowed_by_plan a) x turned is in
      record {
        answers = after.answers;
        holds = after.holds;
        day = λ p q. absurd (not_both q e);
        buffer = rw is refl;
        demand3 = told_demand after formed (told_by_plan a) (plan_outcome a) (λ u q. absurd (not_both q turned));
      }

  -- or did not
  module _ (p : PlannedDay) (new : List ℕ) (after : NarrowsAfter checks l (Ok p.narrowed))
      (broken : p.broken ≡ broken_of (whole_in l) (narrow_after checks l))
      (ends : p.ends ≡ ends_of (whole_in l) (narrow_after checks l))
      (starts : p.starts ≡ starts_of (whole_in l) (narrow_after checks l))
      (buffer : new ≡ planned schedule old (narrow_after checks l)) where
    pub plans_after : PlansAfter checks l old (Ok p) new
    plans_after =
        record {
          answers = after.answers;
          holds = after.holds;
          day = λ q e. subst (HoldsDay whole (narrow_after checks l) (take l.frame.h new)) (the_ok e) held;
          buffer = buffer;
          demand3 =
              told_demand after formed (told_by_plan (Ok p)) refl
              (λ u e _. subst (λ (v : NarrowedList). (k : ℕ) → k < (windows_of v.list).n → AtPlace whole (windows_of v.list) (told_by_plan (Ok p)) k) (the_ok e) at_place);
        }
      where
        whole : ℕ → Bool
        whole = whole_in l

        w : Windows
        w = windows_of p.narrowed.list

        settled : IsSettled checks l p.narrowed
        settled = is_settled after p.narrowed refl formed

        held : HoldsDay whole (narrow_after checks l) (take l.frame.h new) p
        held =
            let long : length (schedule w) ≡ l.frame.h = schedule_long w ∙ settled_day settled in
            let front : take l.frame.h new ≡ schedule w = rw (buffer, settled.outcome) (take_at (schedule w) _ _ long) in
            let count : p.broken ≡ _ = rw settled.outcome at broken in
            record { broken = broken; ends = ends; starts = starts; demand2 = rw (front, count) (settled_plan settled) }

        at_place : (k : ℕ) → k < w.n → AtPlace whole w (told_by_plan (Ok p)) k
        at_place k place = record { end = end; start = start; early = ap (early_plan w k) end; late = ap (late_plan w k) start }
          where
            bound : (f : ℕ → ℕ) (xs : List ℕ) → xs ≡ by_place w.n f → get_or xs k 0 ≡ f k
            bound f xs e = rw e (by_place_lem f w.n k (settled_few settled) place)

            end : get_or p.ends k 0 ≡ least_end overload_of whole w k
            end = bound (least_end overload_of whole w) p.ends (rw settled.outcome at ends)

            start : get_or p.starts k 0 ≡ greatest_start overload_of whole w k
            start = bound (greatest_start overload_of whole w) p.starts (rw settled.outcome at starts)

pub plan_done : {l : DayList} {old : List ℕ} {marks : List Bool} {found : NarrowedWindows}
    → Planning (plan_checks l (length old)) l old marks found → {v : Result (Unit {0}) Refusal} {new : List ℕ}
    → FillsWindows (windows_in found.windows) old v new
    → {x : ℕ} → x ≡ broken_in (marked marks) (windows_in found.windows) (places_in (take found.windows.h new))
    → {b : Bounds} → HoldsBounds (marked marks) (windows_in found.windows) b
    → {n : NarrowedList} → NarrowsAfter (plan_checks l (length old)) l (Ok n)
    → PlansDay l old (Ok (record { narrowed = n; broken = x; ends = b.ends; starts = b.starts })) new
plan_done {l} {old} planning fills broken bounds after =
    plans_after (plan_checks l (length old)) l (plan_formed l (length old)) old _ _ after
    (broken_is planning fills _ broken)
    (ends_are planning bounds)
    (starts_are planning bounds)
    (plan_is planning fills)

-- Showing a plan of place k.

-- what is put for the plan x of place k changes nothing if it is what was there
put_shown_lem : {A : Type 0} (f : Shown → ℕ → A) (x : Shown) (k : ℕ) (v : A) → v ≡ f x k → (y : Shown) (i : ℕ)
    → put_shown x k v f y i ≡ f y i
put_shown_lem {A} f x k v e = go x e
  where
    there : (g : ℕ → A) → v ≡ g k → (i : ℕ) → cond (eqb i k) v (g i) ≡ g i
    there g e i = same_cases i k (λ q _. rw (eq-eqb i k q) (rw q e)) (λ z _. rw (ne_eqb i k z) refl)

    go : (x : Shown) → v ≡ f x k → (y : Shown) (i : ℕ) → put_shown x k v f y i ≡ f y i
    go Early e Early i = there (f Early) e i
    go Late e Late i = there (f Late) e i
    go Early e Late i = refl
    go Late e Early i = refl

shown_outcome : (x : Shown) (whole : ℕ → Bool) (k : ℕ) (a : Result ShownPlan Refusal) (bytes : List ℕ)
    → (told_by_shown x whole k a bytes).outcome ≡ narrowed_in (narrowed_by_shown a)
shown_outcome x whole k (Ok p) bytes = refl
shown_outcome x whole k (Err r) bytes = refl

module _ (x : Shown) (l : DayList) (k : ℕ) (old : List ℕ) where
  -- the checks or narrowing refused
  pub shown_refused : (a : Result ShownPlan Refusal) (r : Refusal) → a ≡ Err r → shown_of l k (length old) ≡ refused (code_of r)
      → Shows x l k old a old
  shown_refused a r e is =
      let turned : narrowed_by_shown a ≡ Err r = ap narrowed_by_shown e in
      let formed = shown_formed l k (length old) in
      let after = narrows_not (shown_checks l k (length old)) l formed (narrowed_by_shown a) r turned is in
      record {
        answers = after.answers;
        holds = after.holds;
        bound = λ p q. absurd (not_both q e);
        buffer = rw is refl;
        demand3 =
            told_demand after formed (told_by_shown x (whole_in l) k a (take l.frame.h old))
            (shown_outcome x (whole_in l) k a (take l.frame.h old)) (λ u q. absurd (not_both q turned));
      }

  -- or did not
  module _ (p : ShownPlan) (new : List ℕ) (after : NarrowsAfter (shown_checks l k (length old)) l (Ok p.narrowed))
      (bound : p.bound ≡ settled_or 0 (bound_of x (whole_in l) k) (shown_of l k (length old)))
      (buffer : new ≡ planned (shown_plan x (whole_in l) k) old (shown_of l k (length old))) where
    shows : Shows x l k old (Ok p) new
    shows =
        record {
          answers = after.answers;
          holds = after.holds;
          bound = λ q e. ap (λ (v : ShownPlan). v.bound) (sym (the_ok e)) ∙ bound;
          buffer = buffer;
          demand3 =
              told_demand after (shown_formed l k (length old)) (told_by_shown x whole k (Ok p) bytes) refl
              (λ u e _ i place. subst (λ (v : NarrowedList). AtPlace whole (windows_of v.list) (told_by_shown x whole k (Ok p) bytes) i) (the_ok e) (at_place i));
        }
      where
        whole : ℕ → Bool
        whole = whole_in l

        w : Windows
        w = windows_of p.narrowed.list

        bytes : List ℕ
        bytes = take l.frame.h new

        settled : IsSettled (shown_checks l k (length old)) l p.narrowed
        settled = is_settled after p.narrowed refl (shown_formed l k (length old))

        at_place : (i : ℕ) → AtPlace whole w (told_by_shown x whole k (Ok p) bytes) i
        at_place i = record { end = bounds Early i; start = bounds Late i; early = plans Early i; late = plans Late i }
          where
            bounds : (y : Shown) (i : ℕ) → put_shown x k p.bound (λ z j. bound_of z whole j w) y i ≡ bound_of y whole i w
            bounds = put_shown_lem (λ z j. bound_of z whole j w) x k p.bound (rw settled.outcome at bound)

            front : bytes ≡ shown_plan x whole k w
            front =
                let long : length (shown_plan x whole k w) ≡ l.frame.h = shown_long x whole k w ∙ settled_day settled in
                rw (buffer, settled.outcome) (take_at (shown_plan x whole k w) _ _ long)

            plans : (y : Shown) (i : ℕ) → put_shown x k bytes (λ z j. shown_plan z whole j w) y i ≡ shown_plan y whole i w
            plans = put_shown_lem (λ z j. shown_plan z whole j w) x k bytes front

module _ {l : DayList} {k : ℕ} {old : List ℕ} {marks : List Bool} {found : NarrowedWindows}
    (planning : Planning (shown_checks l k (length old)) l old marks found) (long : length l.entries ≡ 64) where
  -- the place asked is one of the settled windows
  pub shown_place : k < (windows_in found.windows).n
  shown_place =
      let passed = shown_plan_lem l k (length old) planning.passed in
      place_in planning (plan_formed l (length old) passed.1) long k passed.0

  module _ {x : Shown} {b : Result ℕ Refusal} {new : List ℕ} (stores : StoresPlan x (marked marks k) (windows_in found.windows) k old b new)
    where
      -- storing the plan refuses nothing more
      pub shown_not_refused : (r : Refusal) → b ≡ Err r → ⊥
      shown_not_refused = shown_some planning shown_place stores

      pub shown_done : (v : ℕ) → b ≡ Ok v → {n : NarrowedList} → NarrowsAfter (shown_checks l k (length old)) l (Ok n)
          → Shows x l k old (Ok (record { narrowed = n; bound = v })) new
      shown_done v e after =
          shows x l k old _ new after (shown_bound planning shown_place stores v e) (shown_stored planning shown_place stores)
