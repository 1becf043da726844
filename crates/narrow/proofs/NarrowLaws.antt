-- The law of narrowing: what it answers, and what every step, visit and round keeps on the way.
-- Assumes nothing.
use mathlib.Core.Path.{◌≡◌, refl, sym, ap, ◌∙◌}
use mathlib.Core.Logic.{inl, inr}
use mathlib.Core.Bool.{Bool, true}
use mathlib.Core.List.{List, [], ◌∷◌}
use Prim.Native.Nat.{ℕ, suc, ◌<◌, ◌≤◌}
use native.Mathlib.Omega.{arith}
use Rattle.base.specs.Outcomes.{Code, code, Outcome, answered, refused, and_then}
use Rattle.base.proofs.Inversion.{Says, Anything}
use Rattle.windows.specs.Windows.{Windows, with_windows, Formed}
use Rattle.windows.specs.Plans.{Plannable}
use Rattle.narrow.specs.Searching.{Test, SearchLaw}
use Rattle.narrow.specs.Settling.{SettledInside, NoneSettled, Widest, minutes_cut}
use Rattle.narrow.specs.Rounds.{Narrowed, unmoved, round, rounds, slack, narrowing}
use Rattle.narrow.specs.StepLists.{Step, NamesWhole, steps_leave, some_refused, NothingLeft, Completes}
use Rattle.narrow.specs.RoundsByPlans.{RoundsGive, rounds_steps}
use Rattle.narrow.specs.Laws.{RoomInside, Reason, FromSteps, RoundLaw, NarrowLaw}
use Rattle.narrow.proofs.Planners.{Planner}
use Rattle.narrow.proofs.StepsKeep.{Keeps, keeps_n, keeps_p}
use Rattle.windows.proofs.Room.{formed_inside}
use Rattle.narrow.proofs.Costs.{CostsOr, round_cost, round_refused, rounds_says}
use Rattle.narrow.proofs.Exact.{search_law}
use Rattle.narrow.proofs.SettledSteps.{Narrows, NarrowsOr, plannable_widen, round_narrows, rounds_narrow, steps_narrow, steps_none}
use Rattle.narrow.proofs.RoundSteps.{AsSteps, round_gives, rounds_give, rounds_as_steps, names_rounds}
use Rattle.narrow.proofs.SingleRounds.{round_after}
use Rattle.narrow.proofs.Fixpoints.{nothing_widest, rounds_end, rounds_widest, widest_set, widest_unique}
use Rattle.narrow.proofs.UnbrokenPlans.{unbroken_some, unbroken_widest}

-- Every settled set inside the windows stays inside after a round that is answered, and none exists after a refused one.

module _ {test : Test} (planner : Planner test) (whole : ℕ → Bool) where
  module _ (s : Narrowed) (formed : Formed s.windows) where
    round_stays : (v : Narrowed) → round test whole s ≡ answered v
        → (r d : ℕ → ℕ) → SettledInside whole s.windows r d → SettledInside whole v.windows r d
    round_stays v e = (rw e at (round_narrows planner whole s formed)).stays

    round_none : (x : Code) → round test whole s ≡ refused x → NoneSettled whole s.windows
    round_none x e = rw e at (round_narrows planner whole s formed)

  -- All that a round from windows not yet moved keeps.
  pub round_law : (w : Windows) → Formed w → RoundLaw whole w (round test whole (unmoved w))
  round_law w formed =
      record {
        by_plans =
            λ m.
            let s : Narrowed = record { windows = w; moves = m } in
            rw (← round_after test whole s) (round_gives planner whole s formed);
        inside = λ v e. (round_cost test whole (unmoved w) formed v e).keeps.inside;
        stays = round_stays (unmoved w) formed;
        none = round_none (unmoved w) formed;
        ten = round_refused test whole (unmoved w) formed;
        moves_cut = λ v e. omega (arith, (round_cost test whole (unmoved w) formed v e).cut);
        moves_slack = λ v e. omega (arith, (round_cost test whole (unmoved w) formed v e).bounded);
      }

-- Narrowing.

module _ {test : Test} (planner : Planner test) (whole : ℕ → Bool) (w : Windows) (formed : Formed w) where
  -- the rounds that follow where a plan exists
  abbrev outcome : Outcome Narrowed
  outcome = rounds test whole (suc (slack whole w)) (unmoved w)

  -- the test is passed, and a plan exists, or it is not, and none does
  by_plan : (P : Outcome Narrowed → Type 0) → (Plannable w → P outcome)
      → ((k : Code) → test w ≡ refused k → (Plannable w → ⊥) → P (refused k)) → P (narrowing test whole w)
  unfolding narrowing
  by_plan P pass fail = go (test w) refl
    where
      go : (o : Outcome (Unit {0})) → test w ≡ o → P (and_then o (λ _. outcome))
      go (answered t) e = pass ((planner.exact w formed).1 e)
      go (refused k) e = fail k e (λ planned. let z : ◌≡◌ {A = ℕ} 0 1 = cc ((planner.exact w formed).0 planned, e) in omega arith)

  by_rounds : Plannable w → RoundsGive whole (unmoved w) (narrowing test whole w)
  by_rounds planned =
      by_plan (RoundsGive whole (unmoved w)) (λ _. rounds_give planner whole _ (unmoved w) formed (omega arith))
      (λ k e none. absurd (none planned))

  -- the rounds are a list of steps: it completes, or meets a refusal
  rounds_steps_lem : Plannable w → (m : ℕ) × FromSteps test whole w (rounds_steps whole w.n m) (narrowing test whole w)
  rounds_steps_lem planned =
      by_plan (λ o. (m : ℕ) × FromSteps test whole w (rounds_steps whole w.n m) o)
      (λ _.
      let z = rounds_as_steps planner whole w.n _ (unmoved w) formed (omega arith) refl in
      (z.0, go z.0 outcome z.1 (rounds_end test whole _ (unmoved w) formed (omega arith))))
      (λ k e none. absurd (none planned))
    where
      go : (m : ℕ) (o : Outcome Narrowed) → AsSteps test (rounds_steps whole w.n m) (unmoved w) o
          → Says (λ v. NothingLeft test whole v.windows) Anything o → FromSteps test whole w (rounds_steps whole w.n m) o
      go m (answered v) steps nothing =
          (record { names = names_rounds whole w.n m; nothing_left = rw steps.leaves nothing }, steps.leaves)
      go m (refused k) steps nothing = (names_rounds whole w.n m, steps.leaves)

  -- settled sets stay inside, and a refusal says that there is none
  narrowing_narrows : NarrowsOr whole w (narrowing test whole w)
  narrowing_narrows =
      by_plan (NarrowsOr whole w)
      (λ _. rounds_narrow planner whole _ (unmoved w) formed)
      (λ k e none r d set. none (plannable_widen w r d set.inside set.settled.plan))

  narrowing_widest : Says (λ v. Widest whole w v.windows) Anything (narrowing test whole w)
  narrowing_widest =
      by_plan (Says (λ v. Widest whole w v.windows) Anything)
      (λ planned. rounds_widest planner whole _ (unmoved w) formed planned (omega arith))
      (λ k e none. tt)

  narrowing_reason : Says (λ _. Unit {0}) (Reason whole w) (narrowing test whole w)
  narrowing_reason =
      by_plan (Says (λ _. Unit {0}) (Reason whole w))
      (λ planned. go planned outcome (rounds_says test whole _ (unmoved w) formed))
      (λ k e none. inl (planner.shown w formed k e, none))
    where
      go : Plannable w → (o : Outcome Narrowed) → CostsOr whole (unmoved w) o → Says (λ _. Unit {0}) (Reason whole w) o
      go planned (answered v) costs = tt
      go planned (refused k) (i, place, is, ten) = inr ((i, place, is, ten), planned)

  narrowing_cut : Says (λ v. v.moves ≤ minutes_cut w v.windows) Anything (narrowing test whole w)
  narrowing_cut =
      by_plan (Says (λ v. v.moves ≤ minutes_cut w v.windows) Anything)
      (λ _. go outcome (rounds_says test whole _ (unmoved w) formed))
      (λ k e none. tt)
    where
      go : (o : Outcome Narrowed) → CostsOr whole (unmoved w) o → Says (λ v. v.moves ≤ minutes_cut w v.windows) Anything o
      go (answered v) costs = omega (arith, costs.cut)
      go (refused k) costs = tt

  -- the same of what is answered and of a refusal
  widest : (v : Narrowed) → narrowing test whole w ≡ answered v → Widest whole w v.windows
  widest v e = rw e at narrowing_widest

  none_settled : (k : Code) → narrowing test whole w ≡ refused k → NoneSettled whole w
  none_settled k e = rw e at narrowing_narrows

  reason : (k : Code) → narrowing test whole w ≡ refused k → Reason whole w k
  reason k e = rw e at narrowing_reason

  -- one of the two
  decided : {G : Type 0} → ((v : Narrowed) → narrowing test whole w ≡ answered v → G)
      → ((k : Code) → narrowing test whole w ≡ refused k → G) → G
  decided {G} f g = go (narrowing test whole w) refl
    where
      go : (o : Outcome Narrowed) → narrowing test whole w ≡ o → G
      go (answered v) e = f v e
      go (refused k) e = g k e

  -- windows answered are settled, so it is refused where no set is
  refused_if_none : NoneSettled whole w → (k : Code) × (narrowing test whole w ≡ refused k)
  refused_if_none none = decided (λ v e. absurd (none _ _ (widest_set whole w v.windows (widest v e)))) (λ k e. (k, e))

  -- windows with room inside can be searched, and what a list of steps leaves are such windows
  searches : (v : Windows) → RoomInside w v → (k : ℕ) → k < w.n → SearchLaw test v k
  searches v has k place =
      rw has.entries
      (search_law planner (with_windows w v.r v.d)
      (formed_inside w formed v.r v.d (record { r = has.inside.r; d = has.inside.d }) has.room) k place)

  steps_room : (ss : List Step) → NamesWhole whole w.n ss → RoomInside w (steps_leave test ss w)
  steps_room ss names =
      let keeps = (steps_narrow planner whole ss w formed names).keeps in
      record {
        entries = keeps.entries;
        inside = keeps.inside;
        room = λ i place. omega (arith, keeps.formed.room i (omega (arith, keeps_n keeps)), keeps_p keeps i);
      }

  -- Lists of steps, where a plan exists.

  module _ (planned : Plannable w) where
    -- one with a refused step leaves no settled set, so narrowing is refused too, by row 10
    steps_refused : (ss : List Step) → NamesWhole whole w.n ss → some_refused test ss w ≡ true
        → (i : ℕ) × (narrowing test whole w ≡ refused (code 10 (i ∷ []))) × RoundsGive whole (unmoved w) (refused (code 10 (i ∷ [])))
    steps_refused ss names some =
        let z = refused_if_none (steps_none planner whole ss w formed names some) in
        go z.0 z.1 (reason z.0 z.1)
      where
        go : (k : Code) → narrowing test whole w ≡ refused k → Reason whole w k
            → (i : ℕ) × (narrowing test whole w ≡ refused (code 10 (i ∷ []))) × RoundsGive whole (unmoved w) (refused (code 10 (i ∷ [])))
        go k e (inl (_, none)) = absurd (none planned)
        go k e (inr ((i, _, _, ten), _)) = let is = e ∙ ap refused ten in (i, is, rw is at (by_rounds planned))

    module _ (ss : List Step) (done : Completes test whole w ss) where
      narrows : Narrows whole w (steps_leave test ss w)
      narrows = steps_narrow planner whole ss w formed done.names

      -- one that leaves nothing to do leaves the widest settled windows
      steps_widest : Widest whole w (steps_leave test ss w)
      steps_widest = nothing_widest planner whole w _ planned narrows done.nothing_left

      -- whatever else is the widest is what it leaves
      steps_are : (v : Windows) → Keeps w v → Widest whole w v → v ≡ steps_leave test ss w
      steps_are v keeps best =
          widest_unique whole w v _ best steps_widest
          (λ i l.
          let x = keeps.past i l in
          let y = narrows.keeps.past i l in
          (x.0 ∙ sym y.0, x.1 ∙ sym y.1))

      -- and so is what narrowing answers
      steps_settled : (moves : ℕ) × (narrowing test whole w ≡ answered (record { windows = steps_leave test ss w; moves = moves }))
      steps_settled =
          decided
          (λ v e.
          let same = steps_are v.windows (rw e at narrowing_narrows).keeps (widest v e) in
          (v.moves, e ∙ (λ i. answered (record { windows = same i; moves = v.moves }))))
          (λ k e. absurd (none_settled k e _ _ (widest_set whole w _ steps_widest)))

  -- All fields.

  pub narrow_law : NarrowLaw test whole w (narrowing test whole w)
  narrow_law =
      record {
        searches = searches;
        steps_room = steps_room;
        steps_keep = λ ss names. (steps_narrow planner whole ss w formed names).stays;
        by_rounds = by_rounds;
        widest = widest;
        refused_exactly = (λ z. none_settled z.0 z.1, refused_if_none);
        reason = reason;
        steps_refused = steps_refused;
        steps_settled = steps_settled;
        rounds_steps_lem = rounds_steps_lem;
        order_free =
            λ planned ss xs done ended.
            steps_are planned xs ended _ (narrows planned ss done).keeps (steps_widest planned ss done);
        refused_once =
            λ planned ss xs names some done.
            steps_none planner whole ss w formed names some _ _ (widest_set whole w _ (steps_widest planned xs done));
        unbroken_kept = λ v e m plan unbroken. unbroken_widest whole w formed m plan unbroken v.windows (widest v e);
        unbroken_none = λ k e m plan unbroken. unbroken_some whole w formed m plan unbroken (none_settled k e);
        moves_cut = λ v e. rw e at narrowing_cut;
      }
