-- Steps, visits, rounds and lists of steps keep every settled set of windows inside, and once a step is refused there is none.
-- Assumes nothing.
use mathlib.Core.Path.{◌≡◌, refl, ap, subst, ◌∙◌}
use mathlib.Core.Bool.{Bool, true, false, cond, not, ◌||◌, false≢true}
use mathlib.Core.List.{List, [], ◌∷◌}
use Prim.Native.Nat.{ℕ, zero, suc, ◌+◌, ◌<◌, ◌≤◌}
use native.Mathlib.Omega.{arith}
use lib.Dec.{eqb}
use Rattle.base.specs.Outcomes.{Outcome, answered, refused, and_then, accepts}
use Rattle.base.proofs.Inversion.{Says, by_step}
use Rattle.windows.specs.Windows.{Windows, Inside, with_windows, with_r, fixed_at, Formed}
use Rattle.windows.specs.Plans.{Plannable}
use Rattle.windows.specs.Mirrors.{mirror}
use Rattle.base.proofs.Sums.{le_or_lt}
use Rattle.windows.proofs.PlanFacts.{widen}
use Rattle.windows.specs.FixedEntries.{IsLeastStart, NoStart}
use Rattle.narrow.specs.Searching.{Test, least_start}
use Rattle.narrow.specs.Settling.{SettledInside, NoneSettled}
use Rattle.narrow.specs.Rounds.{Side, earliest, latest, step, Narrowed, narrow_side, visit, visits, round, rounds}
use Rattle.narrow.specs.StepLists.{Step, NamesWhole, left_by, steps_leave, some_refused}
use Rattle.narrow.proofs.Planners.{Planner}
use Rattle.windows.proofs.Puts.{put_same, put_under, fixed_consecutive, window_after_r, fixed_inside, consecutive_fixed}
use Rattle.windows.proofs.MirrorWindows.{plannable_mirror, formed_mirror, mirror_back}
use Rattle.narrow.proofs.MirrorSearches.{planner_in_mirror, step_mirror}
use Rattle.narrow.proofs.StepsKeep.{Keeps, keeps_same, keeps_n, keeps_trans, keeps_mirror, keeps_r}
use Rattle.narrow.proofs.MirrorSettled.{SidePlan, earliest_mirror, set_formed, set_mirror}
use Rattle.narrow.proofs.Exact.{SearchSays, start_searched}

-- windows have a plan if some inside them have one
pub plannable_widen : (w : Windows) (r d : ℕ → ℕ) → Inside (with_windows w r d) w → Plannable (with_windows w r d) → Plannable w
plannable_widen w r d inside z = (z.0, widen w r d z.0 inside z.1)

-- what steps do to windows
pub record Narrows (whole : ℕ → Bool) (w v : Windows) : Type 0 where
  pub keeps : Keeps w v
  -- every settled set inside stays inside
  pub stays : (r d : ℕ → ℕ) → SettledInside whole w r d → SettledInside whole v r d
  pub plannable : Plannable w → Plannable v

-- what visits and rounds do; a refusal says that no set is settled
abbrev pub NarrowsOr : (ℕ → Bool) → Windows → Outcome Narrowed → Type 0
NarrowsOr whole w = Says (λ v. Narrows whole w v.windows) (λ _. NoneSettled whole w)

narrows_same : {whole : ℕ → Bool} (w : Windows) → Formed w → Narrows whole w w
narrows_same w formed = record { keeps = keeps_same w formed; stays = λ r d set. set; plannable = λ z. z }

narrows_trans : {whole : ℕ → Bool} {u v w : Windows} → Narrows whole u v → Narrows whole v w → Narrows whole u w
narrows_trans a b =
    record {
      keeps = keeps_trans a.keeps b.keeps;
      stays = λ r d set. b.stays r d (a.stays r d set);
      plannable = λ z. b.plannable (a.plannable z);
    }

-- none in what is left is none in what was given
none_before : {whole : ℕ → Bool} {w v : Windows} → Narrows whole w v → NoneSettled whole v → NoneSettled whole w
none_before a none r d set = none r d (a.stays r d set)

-- one outcome, then the next
then : (whole : ℕ → Bool) (w : Windows) (o : Outcome Narrowed) (f : Narrowed → Outcome Narrowed) → NarrowsOr whole w o
    → ((s : Narrowed) → Formed s.windows → s.windows.n ≡ w.n → NarrowsOr whole s.windows (f s)) → NarrowsOr whole w (and_then o f)
then whole w o f told next = by_step _ _ _ o f told (λ s a. onward s.windows a (f s) (next s a.keeps.formed (keeps_n a.keeps)))
  where
    onward : (u : Windows) → Narrows whole w u → (o : Outcome Narrowed) → NarrowsOr whole u o → NarrowsOr whole w o
    onward u a (answered v) b = narrows_trans a b
    onward u a (refused k) none = none_before a none

-- One step.

-- what a step for k does beside that: it leaves a plan with the minutes of k consecutive on its side
pub record StepNarrows (whole : ℕ → Bool) (side : Side) (k : ℕ) (w v : Windows) : Type 0 where
  pub narrows : Narrows whole w v
  pub plan : SidePlan side v k

abbrev pub StepNarrowsOr : (ℕ → Bool) → Side → ℕ → Windows → Outcome Windows → Type 0
StepNarrowsOr whole side k w = Says (StepNarrows whole side k w) (λ _. NoneSettled whole w)

-- a plan for k's window fixed to [r, r + p) is one for w, and k has all of these minutes
fixed_plan : (w : Windows) → Formed w → (k : ℕ) → k < w.n → Plannable (fixed_at w k (w.r k)) → SidePlan earliest w k
fixed_plan w formed k place z =
    let room = formed.room k place in
    let wide = widen w _ _ z.0 (fixed_inside w k (w.r k) (omega arith) room) z.1 in
    (z.0, wide, fixed_consecutive w formed k (w.r k) place room z.0 z.1)

module _ {test : Test} (planner : Planner test) (whole : ℕ → Bool) (w : Windows) (formed : Formed w)
    (k : ℕ) (place : k < w.n) (is_whole : whole k ≡ true) where
  -- a settled set has a plan with k from its own r on, so the search for r answers at most that, and the set stays inside
  start_narrows : StepNarrowsOr whole earliest k w (step test earliest k w)
  start_narrows = go (least_start test w k) (start_searched planner w formed k place)
    where
      here : (r d : ℕ → ℕ) → SettledInside whole w r d → Plannable (fixed_at w k (r k))
      here r d set =
          let z = set.settled.from_r k place is_whole in
          (z.0, consecutive_fixed w z.0 k (r k) (widen w r d z.0 set.inside z.1) z.2)

      kept : (s : ℕ) → IsLeastStart w k s → (r d : ℕ → ℕ) → SettledInside whole w r d → SettledInside whole (with_r w k s) r d
      kept s start r d set =
          let before : s ≤ r k = le_or_lt s (r k) (λ l. l) (λ l. absurd (start.least (r k) (set.inside.r k place) l (here r d set))) in
          record {
            inside =
                record {
                  r = λ i below. put_under k s w.r i (r i) (λ e. omega (arith, ap r e)) (set.inside.r i below);
                  d = set.inside.d;
                };
            settled = set.settled;
          }

      go : (o : Outcome ℕ) → SearchSays (IsLeastStart w k) (NoStart w k) k o
          → StepNarrowsOr whole earliest k w (and_then o (λ s. answered (with_r w k s)))
      go (answered s) start =
          let keeps = keeps_r w formed k place s (start.from_r, start.room) in
          let same = window_after_r w k s s (s + w.p k) in
          let plan = fixed_plan (with_r w k s) keeps.formed k place (rw (put_same k s w.r, same) start.plan) in
          record { narrows = record { keeps = keeps; stays = kept s start; plannable = λ _. (plan.0, plan.1) }; plan = plan }
      go (refused x) (_, none) =
          λ r d set.
          none (r k) (set.inside.r k place)
          (omega (arith, (set_formed whole w formed r d set).room k place, set.inside.d k place))
          (here r d set)

-- Ends, by the mirror.

-- what is done to the mirrored windows is done to the windows
narrows_mirror : {whole : ℕ → Bool} (w : Windows) → Formed w → (v : Windows) → Narrows whole (mirror w) v → Narrows whole w (mirror v)
narrows_mirror {whole} w formed v a =
    record {
      keeps = keeps_mirror w formed a.keeps;
      stays =
          λ r d set.
          let u = mirror (with_windows w r d) in
          let same = mirror_back (with_windows w r d) (set_formed whole w formed r d set) in
          let back = ap (λ x. mirror (with_windows x u.r u.d)) a.keeps.entries ∙ same in
          subst (λ (x : Windows). SettledInside whole (mirror v) x.r x.d) back
          (set_mirror whole v a.keeps.formed u.r u.d (a.stays u.r u.d (set_mirror whole w formed r d set)));
      plannable = λ z. plannable_mirror v (a.plannable (plannable_mirror w z));
    }

-- Steps, visits, rounds and lists of steps.

module _ {test : Test} (planner : Planner test) (whole : ℕ → Bool) where
  pub step_narrows : (side : Side) (w : Windows) → Formed w → (k : ℕ) → k < w.n → whole k ≡ true
      → StepNarrowsOr whole side k w (step test side k w)
  step_narrows earliest w formed k place is_whole = start_narrows planner whole w formed k place is_whole
  step_narrows latest w formed k place is_whole =
      rw (step_mirror (planner_in_mirror planner) w formed k place)
      (go (step test earliest k (mirror w)) (start_narrows planner whole (mirror w) (formed_mirror w formed) k place is_whole))
    where
      go : (o : Outcome Windows) → StepNarrowsOr whole earliest k (mirror w) o
          → StepNarrowsOr whole latest k w (and_then o (λ v. answered (mirror v)))
      go (answered v) a =
          let kept = a.narrows.keeps in
          record {
            narrows = narrows_mirror w formed v a.narrows;
            plan = earliest_mirror v kept.formed k (omega (arith, keeps_n kept)) a.plan;
          }
      go (refused x) none = λ r d set. none _ _ (set_mirror whole w formed r d set)

  side_narrows : (side : Side) (s : Narrowed) → Formed s.windows → (k : ℕ) → k < s.windows.n → whole k ≡ true
      → NarrowsOr whole s.windows (narrow_side test side k s)
  unfolding narrow_side
  side_narrows side s formed k place is_whole =
      by_step _ _ _ (step test side k s.windows) _ (step_narrows side s.windows formed k place is_whole) (λ v a. a.narrows)

  visit_narrows : (s : Narrowed) → Formed s.windows → (k : ℕ) → k < s.windows.n
      → NarrowsOr whole s.windows (visit test whole k s)
  unfolding visit
  visit_narrows s formed k place = go (whole k) refl
    where
      go : (t : Bool) → whole k ≡ t
          → NarrowsOr whole s.windows (cond t (and_then (narrow_side test earliest k s) (narrow_side test latest k)) (answered s))
      go true e =
          then whole s.windows (narrow_side test earliest k s) (narrow_side test latest k) (side_narrows earliest s formed k place e)
          (λ v f q. side_narrows latest v f k (rw q place) e)
      go false e = narrows_same s.windows formed

  visits_narrow : (k : ℕ) (s : Narrowed) → Formed s.windows → k ≤ s.windows.n → NarrowsOr whole s.windows (visits test whole k s)
  unfolding visits
  visits_narrow zero s formed most = narrows_same s.windows formed
  visits_narrow (suc k) s formed most =
      then whole s.windows (visits test whole k s) (visit test whole k) (visits_narrow k s formed (omega arith))
      (λ v f q. visit_narrows v f k (omega arith))

  pub round_narrows : (s : Narrowed) → Formed s.windows → NarrowsOr whole s.windows (round test whole s)
  round_narrows s formed = visits_narrow s.windows.n s formed (omega arith)

  -- what they leave has a plan, if the windows given had one
  pub side_planned : (side : Side) (s : Narrowed) → Formed s.windows → (k : ℕ) → k < s.windows.n → whole k ≡ true
      → Plannable s.windows → (v : Narrowed) → narrow_side test side k s ≡ answered v → Plannable v.windows
  side_planned side s formed k place is_whole planned v e = (rw e at (side_narrows side s formed k place is_whole)).plannable planned

  pub visits_planned : (k : ℕ) (s : Narrowed) → Formed s.windows → k ≤ s.windows.n → Plannable s.windows → (v : Narrowed)
      → visits test whole k s ≡ answered v → Plannable v.windows
  visits_planned k s formed most planned v e = (rw e at (visits_narrow k s formed most)).plannable planned

  pub rounds_narrow : (fuel : ℕ) (s : Narrowed) → Formed s.windows → NarrowsOr whole s.windows (rounds test whole fuel s)
  unfolding rounds
  rounds_narrow zero s formed = narrows_same s.windows formed
  rounds_narrow (suc fuel) s formed =
      then whole s.windows (round test whole s) _ (round_narrows s formed)
      (λ v f q. go v f (eqb v.moves s.moves) _ (rounds_narrow fuel v f))
    where
      go : (v : Narrowed) → Formed v.windows → (t : Bool) (o : Outcome Narrowed) → NarrowsOr whole v.windows o
          → NarrowsOr whole v.windows (cond t (answered v) o)
      go v f true o told = narrows_same v.windows f
      go v f false o told = told

  -- one step of a list, which changes nothing if it is refused
  left_narrows : (side : Side) (k : ℕ) (w : Windows) → Formed w → (o : Outcome Windows) → StepNarrowsOr whole side k w o
      → Narrows whole w (left_by o w)
  left_narrows side k w formed (answered v) a = a.narrows
  left_narrows side k w formed (refused x) none = narrows_same w formed

  -- a list of steps
  pub steps_narrow : (ss : List Step) (w : Windows) → Formed w → NamesWhole whole w.n ss → Narrows whole w (steps_leave test ss w)
  unfolding steps_leave
  steps_narrow [] w formed names = narrows_same w formed
  steps_narrow (s ∷ ss) w formed names =
      let o = step test s.side s.place w in
      let a = left_narrows s.side s.place w formed o (step_narrows s.side w formed s.place names.0 names.1) in
      narrows_trans a (steps_narrow ss (left_by o w) a.keeps.formed (rw (keeps_n a.keeps) names.2))

  pub steps_none : (ss : List Step) (w : Windows) → Formed w → NamesWhole whole w.n ss
      → some_refused test ss w ≡ true → NoneSettled whole w
  unfolding some_refused
  steps_none [] w formed names = λ e. absurd (false≢true e)
  steps_none (s ∷ ss) w formed names =
      go (step test s.side s.place w) (step_narrows s.side w formed s.place names.0 names.1)
      (λ v a. steps_none ss v a.keeps.formed (rw (keeps_n a.keeps) names.2))
    where
      go : (o : Outcome Windows) → StepNarrowsOr whole s.side s.place w o
          → ((v : Windows) → Narrows whole w v → some_refused test ss v ≡ true → NoneSettled whole v)
          → (not (accepts o) || some_refused test ss (left_by o w)) ≡ true → NoneSettled whole w
      go (answered v) a rest e = none_before a.narrows (rest v a.narrows e)
      go (refused k) none rest e = none
