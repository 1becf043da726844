-- The fast way and the defined way narrow alike.
-- Assumes nothing.
use mathlib.Core.Path.{◌≡◌, refl, sym, ap, ◌∙◌}
use mathlib.Core.Bool.{Bool, true, false, cond}
use Prim.Native.Nat.{ℕ, zero, suc, ◌<◌, ◌≤◌}
use native.Mathlib.Omega.{arith}
use borrow.Author.Tests.{lt-ltb, le-ltb}
use lib.Dec.{eqb}
use Rattle.base.specs.Outcomes.{Outcome, answered, refused, and_then, accepts}
use Rattle.base.specs.Counting.{first_below}
use Rattle.base.proofs.Sums.{le_or_lt}
use Rattle.base.proofs.Searches.{First, first_below_lem}
use Rattle.base.proofs.Inversion.{answered_refused, then_same}
use Rattle.windows.specs.Windows.{Windows, with_r, Formed}
use Rattle.windows.specs.Plans.{Plannable}
use Rattle.windows.specs.Mirrors.{mirror}
use Rattle.windows.specs.Intervals.{overload_of}
use Rattle.windows.specs.RunningSums.{LatestReleaseFirst}
use Rattle.windows.proofs.MirrorWindows.{formed_mirror, plannable_mirror}
use Rattle.edges.specs.Starts.{start_by_jumps}
use Rattle.edges.proofs.StartLaws.{start_law}
use Rattle.narrow.specs.Searching.{least_start}
use Rattle.narrow.specs.Rounds.{Side, earliest, latest, Narrowed, step, counted, unmoved, narrow_side, visit, visits, round, rounds}
use Rattle.narrow.specs.Rounds.{slack, narrowing}
use Rattle.narrow.specs.FastRounds.{found_of, first_moved, unplanned_round, fast_step, fast_side, fast_visit, fast_visits, fast_round}
use Rattle.narrow.specs.FastRounds.{fast_rounds, fast_narrowing, fast_one_round, FastLaw}
use Rattle.narrow.proofs.OverloadPlanner.{overload_planner}
use Rattle.narrow.proofs.MirrorSearches.{planner_in_mirror, step_mirror}
use Rattle.narrow.proofs.StepsKeep.{keeps_n}
use Rattle.narrow.proofs.Costs.{side_cost, visits_cost}
use Rattle.narrow.proofs.SettledSteps.{side_planned, visits_planned}
use Rattle.narrow.proofs.RoundCases.{found_least}
use Rattle.narrow.proofs.StayingPlaces.{visits_same, visit_unmoved}
use Rattle.narrow.proofs.UnplannedCases.{PausesBelow, pauses_below, pauses_all, first_refused}

-- the round without a plan
unplanned_same : (whole : ℕ → Bool) (w : Windows) → Formed w → (Plannable w → ⊥)
    → unplanned_round whole w ≡ round overload_of whole (unmoved w)
unfolding unplanned_round
unplanned_same whole w formed none =
    le_or_lt w.n k
    (λ past. rw (le-ltb k w.n past) (pauses_all whole (unmoved w) k below past))
    (λ place. rw (lt-ltb k w.n place) (first_refused whole (unmoved w) k below place formed none (first.passes place)))
  where
    k : ℕ
    k = first_below w.n whole

    first : First w.n whole k
    first = first_below_lem w.n whole

    below : PausesBelow whole (unmoved w) k
    below = pauses_below whole (unmoved w) k first.within first.none_before

module _ (order : Windows → ℕ → ℕ) (sorted : (v : Windows) → LatestReleaseFirst v (order v)) (whole : ℕ → Bool) where
  start_same : (w : Windows) → Formed w → Plannable w → (k : ℕ) → k < w.n
      → found_of k (start_by_jumps w (order w) k) ≡ least_start overload_of w k
  start_same w formed planned k place =
      found_least w formed k place (start_by_jumps w (order w) k) (start_law w formed k place planned (order w) (sorted w))

  step_same : (side : Side) (w : Windows) → Formed w → Plannable w → (k : ℕ) → k < w.n
      → fast_step order whole side k w ≡ step overload_of side k w
  step_same earliest w formed planned k place =
      ap (λ (o : Outcome ℕ). and_then o (λ s. answered (with_r w k s))) (start_same w formed planned k place)
  step_same latest w formed planned k place =
      ap (λ (o : Outcome ℕ). and_then o (λ s. answered (mirror (with_r (mirror w) k s))))
      (start_same (mirror w) (formed_mirror w formed) (plannable_mirror w planned) k place)
      ∙ (turned (least_start overload_of (mirror w) k)
      ∙ sym (step_mirror (planner_in_mirror overload_planner) w formed k place))
    where
      turned : (o : Outcome ℕ) → and_then o (λ s. answered (mirror (with_r (mirror w) k s)))
          ≡ and_then (and_then o (λ s. answered (with_r (mirror w) k s))) (λ v. answered (mirror v))
      turned (answered s) = refl
      turned (refused x) = refl

  side_same : (side : Side) (s : Narrowed) → Formed s.windows → Plannable s.windows → (k : ℕ) → k < s.windows.n
      → fast_side order whole side k s ≡ narrow_side overload_of side k s
  unfolding narrow_side
  side_same side s formed planned k place =
      ap (λ (o : Outcome Windows). and_then o (λ v. answered (counted k s v))) (step_same side s.windows formed planned k place)

  visit_same : (s : Narrowed) → Formed s.windows → Plannable s.windows → (k : ℕ) → k < s.windows.n
      → fast_visit order whole k s ≡ visit overload_of whole k s
  unfolding visit
  visit_same s formed planned k place = go (whole k) refl
    where
      go : (t : Bool) → whole k ≡ t
          → cond t (and_then (fast_side order whole earliest k s) (fast_side order whole latest k)) (answered s)
          ≡ cond t (and_then (narrow_side overload_of earliest k s) (narrow_side overload_of latest k)) (answered s)
      go true is =
          ap (λ (o : Outcome Narrowed). and_then o (fast_side order whole latest k)) (side_same earliest s formed planned k place)
          ∙ then_same (narrow_side overload_of earliest k s) (fast_side order whole latest k) (narrow_side overload_of latest k)
          (λ v e.
          let keeps = (side_cost overload_of whole s formed earliest k place is v e).keeps in
          side_same latest v keeps.formed (side_planned overload_planner whole earliest s formed k place is planned v e) k
          (omega (arith, place, keeps_n keeps)))
      go false is = refl

  -- the visits below `first` change nothing, so they may be passed over
  visits_alike : (s : Narrowed) → Formed s.windows → Plannable s.windows → (first : ℕ)
      → ((k : ℕ) → k ≤ first → k ≤ s.windows.n → visits overload_of whole k s ≡ answered s)
      → (k : ℕ) → k ≤ s.windows.n → fast_visits order whole first k s ≡ visits overload_of whole k s
  unfolding fast_visits visits
  visits_alike s formed planned first same zero most = refl
  visits_alike s formed planned first same (suc k) most =
      le_or_lt first k
      (λ past.
      rw (le-ltb k first past)
      (ap (λ (o : Outcome Narrowed). and_then o (fast_visit order whole k))
      (visits_alike s formed planned first same k (omega (arith, most)))
      ∙ then_same (visits overload_of whole k s) (fast_visit order whole k) (visit overload_of whole k)
      (λ v e.
      let keeps = (visits_cost overload_of whole s formed k (omega (arith, most)) v e).keeps in
      visit_same v keeps.formed (visits_planned overload_planner whole k s formed (omega (arith, most)) planned v e) k
      (omega (arith, most, keeps_n keeps)))))
      (λ below. rw (lt-ltb k first below) (sym (same (suc k) below most)))

  round_same : (s : Narrowed) → Formed s.windows → Plannable s.windows → fast_round order whole s ≡ round overload_of whole s
  round_same s formed planned =
      visits_alike s formed planned (first_moved whole s.windows) (visits_same whole s formed planned) s.windows.n (omega arith)

  rounds_same : (fuel : ℕ) (s : Narrowed) → Formed s.windows → Plannable s.windows
      → fast_rounds order whole fuel s ≡ rounds overload_of whole fuel s
  unfolding fast_rounds rounds
  rounds_same zero s formed planned = refl
  rounds_same (suc fuel) s formed planned =
      ap
      (λ (o : Outcome Narrowed).
      and_then o (λ v. cond (eqb v.moves s.moves) (answered v) (fast_rounds order whole fuel v)))
      (round_same s formed planned)
      ∙ then_same (round overload_of whole s) _ _
      (λ v e.
      let keeps = (visits_cost overload_of whole s formed s.windows.n (omega arith) v e).keeps in
      ap (cond (eqb v.moves s.moves) (answered v))
      (rounds_same fuel v keeps.formed
      (visits_planned overload_planner whole s.windows.n s formed (omega arith) planned v e)))

  narrowing_same : (w : Windows) → Formed w → fast_narrowing order whole w ≡ narrowing overload_of whole w
  unfolding fast_narrowing narrowing
  narrowing_same w formed =
      then_same (overload_of w) _ _
      (λ _ e. rounds_same (suc (slack whole w)) (unmoved w) formed ((overload_planner.exact w formed).1 e))

  one_round_same : (w : Windows) → Formed w → fast_one_round order whole w ≡ round overload_of whole (unmoved w)
  unfolding fast_one_round
  one_round_same w formed = go (overload_of w) refl
    where
      go : (o : Outcome (Unit {0})) → overload_of w ≡ o
          → cond (accepts o) (fast_round order whole (unmoved w)) (unplanned_round whole w) ≡ round overload_of whole (unmoved w)
      go (answered _) e = round_same (unmoved w) formed ((overload_planner.exact w formed).1 e)
      go (refused x) e =
          unplanned_same whole w formed (λ plan. answered_refused ((overload_planner.exact w formed).0 plan) e)

pub fast_law : (whole : ℕ → Bool) (w : Windows) → Formed w → FastLaw whole w
fast_law whole w formed =
    record {
      narrowed = λ order sorted. narrowing_same order sorted whole w formed;
      one_round = λ order sorted. one_round_same order sorted whole w formed;
      not_moved = λ planned k place. visit_unmoved whole (unmoved w) formed planned k place;
    }
