-- What the answers of the calls on lists say: the windows of the list answered, its kinds, and the laws.
-- Assumes nothing.
use mathlib.Core.Path.{◌≡◌, refl, sym, ap, ◌∙◌}
use Prim.Native.Nat.{ℕ}
use Rattle.base.specs.Outcomes.{Outcome, answered, refused, and_then}
use Rattle.list.specs.DayLists.{whole_in}
use Rattle.list.specs.Checks.{check_of, WellFormed}
use Rattle.list.specs.declared.types.DayList.{DayList}
use Rattle.list.specs.declared.types.Refusal.{Refusal}
use Rattle.std.specs.Prelude.{Err, Ok, Result}
use Rattle.base.proofs.Inversion.{answered_same, answered_refused, refused_same}
use Rattle.windows.specs.Windows.{windows_of, Formed}
use Rattle.windows.specs.Intervals.{overload_of}
use Rattle.windows.proofs.FormedLists.{list_formed}
use Rattle.narrow.specs.Rounds.{Narrowed, unmoved, round, all_rounds, narrowing}
use Rattle.narrow.specs.Laws.{RoundLaw, NarrowLaw}
use Rattle.narrow.specs.Calls.{list_with, settle_of, round_of, listed, narrow_answer_of, narrowed_in, AnswersAs, KeepsBoxes, HoldsAnswer}
use Rattle.narrow.specs.Calls.{Settles, MakesRound}
use Rattle.narrow.specs.declared.types.NarrowedList.{NarrowedList}
use Rattle.narrow.proofs.StepsKeep.{Keeps}
use Rattle.narrow.proofs.Costs.{round_cost, rounds_cost}
use Rattle.narrow.proofs.NarrowLaws.{round_law, narrow_law}
use Rattle.narrow.proofs.OverloadPlanner.{overload_planner}
use Rattle.narrow.proofs.ListWindows.{listed_windows, listed_frame, listed_boxes, listed_whole, listed_formed}

-- the law of narrowing holds of a list that passes the value check
settle_law : (l : DayList) → WellFormed l → NarrowLaw overload_of (whole_in l) (windows_of l) (settle_of l)
unfolding settle_of
settle_law l formed = rw formed (narrow_law overload_planner (whole_in l) (windows_of l) (list_formed l formed))

-- Windows that narrowing leaves are those of the list answered.
module _ (l : DayList) (o : Outcome Narrowed) (keeps : (v : Narrowed) → o ≡ answered v → Keeps (windows_of l) v.windows × WellFormed l) where
  list_is : (v : NarrowedList) (u : Narrowed) → narrow_answer_of (Ok v) ≡ listed l (answered u)
      → (v.list ≡ list_with l u.windows) × (v.moves ≡ u.moves)
  list_is v u e =
      let z : ◌≡◌ {A = DayList × ℕ} (v.list, v.moves) (list_with l u.windows, u.moves) = answered_same refl e in
      (ap (λ (x : DayList × ℕ). x.0) z, ap (λ (x : DayList × ℕ). x.1) z)

  narrowed : (a : Result NarrowedList Refusal) (u : Outcome Narrowed) → narrow_answer_of a ≡ listed l u → o ≡ u → narrowed_in a ≡ u
  narrowed (Ok v) (answered u) e q =
      let z = list_is v u e in
      λ i. answered (record { windows = (ap windows_of z.0 ∙ listed_windows l u.windows (keeps u q).0) i; moves = z.1 i })
  narrowed (Ok v) (refused k) e q = absurd (answered_refused refl e)
  narrowed (Err x) (answered u) e q = absurd (answered_refused refl (sym e))
  narrowed (Err x) (refused k) e q = ap refused (refused_same refl e)

  kept : (v : NarrowedList) (u : Outcome Narrowed) → narrow_answer_of (Ok v) ≡ listed l u → o ≡ u → KeepsBoxes l v.list
  kept v (answered u) e q =
      let z = keeps u q in
      rw (list_is v u e).0
      (record {
        frame = listed_frame l u.windows;
        boxes = listed_boxes l u.windows z.0;
        kinds = listed_whole l u.windows z.0;
        formed = listed_formed l u.windows z.0 z.1;
      })
  kept v (refused k) e q = absurd (answered_refused refl e)

  pub holds_answer : (a : Result NarrowedList Refusal) → AnswersAs l o a → HoldsAnswer l o a
  holds_answer a answers =
      record { narrowed = narrowed a o answers refl; keeps = λ v e. kept v o (ap narrow_answer_of (sym e) ∙ answers) refl }

-- the outcome of a call whose value check was passed, and not
module _ (l : DayList) (f : Outcome Narrowed) where
  passed_check : (v : Narrowed) → and_then (check_of l) (λ _. f) ≡ answered v → WellFormed l × (f ≡ answered v)
  passed_check v = go (check_of l) refl
    where
      go : (c : Outcome (Unit {0})) → check_of l ≡ c → and_then c (λ _. f) ≡ answered v → WellFormed l × (f ≡ answered v)
      go (answered t) e q = (e, q)
      go (refused k) e q = absurd (answered_refused q refl)

-- What `settle` answers.
module _ (l : DayList) where
  pub settle_keeps : (v : Narrowed) → settle_of l ≡ answered v → Keeps (windows_of l) v.windows × WellFormed l
  unfolding settle_of narrowing
  settle_keeps v e =
      let z = passed_check l (narrowing overload_of (whole_in l) (windows_of l)) v e in
      (go (overload_of (windows_of l)) (list_formed l z.0) z.1, z.0)
    where
      go : (t : Outcome (Unit {0})) → Formed (windows_of l)
          → and_then t (λ _. all_rounds overload_of (whole_in l) (windows_of l)) ≡ answered v
          → Keeps (windows_of l) v.windows
      go (answered t) formed q = (rounds_cost overload_of (whole_in l) (unmoved (windows_of l)) formed _ v q).keeps
      go (refused k) formed q = absurd (answered_refused q refl)

  pub settles : (a : Result NarrowedList Refusal) → AnswersAs l (settle_of l) a → Settles l a
  settles a answers =
      let holds = holds_answer l (settle_of l) settle_keeps a answers in
      record { answers = answers; holds = holds; law = λ formed. rw holds.narrowed (settle_law l formed) }

  -- What `make_round` answers.
  round_keeps : (v : Narrowed) → round_of l ≡ answered v → Keeps (windows_of l) v.windows × WellFormed l
  unfolding round_of
  round_keeps v e =
      let z = passed_check l (round overload_of (whole_in l) (unmoved (windows_of l))) v e in
      ((round_cost overload_of (whole_in l) (unmoved (windows_of l)) (list_formed l z.0) v z.1).keeps, z.0)

  list_round_law : WellFormed l → RoundLaw (whole_in l) (windows_of l) (round_of l)
  unfolding round_of
  list_round_law formed = rw formed (round_law overload_planner (whole_in l) (windows_of l) (list_formed l formed))

  pub makes_round : (a : Result NarrowedList Refusal) → AnswersAs l (round_of l) a → MakesRound l a
  makes_round a answers =
      let holds = holds_answer l (round_of l) round_keeps a answers in
      record { answers = answers; holds = holds; law = λ formed. rw holds.narrowed (list_round_law formed) }
