-- Windows that no step changes are settled. A round without moves leaves such windows, and they are the widest settled ones.
-- Assumes nothing.
use mathlib.Core.Path.{◌≡◌, refl, sym, ap, subst, ◌∙◌, fun_ext}
use mathlib.Core.Bool.{Bool, true, false, cond, false≢true}
use Prim.Native.Nat.{ℕ, zero, suc, ◌<◌, ◌≤◌}
use native.Mathlib.Omega.{arith}
use Rattle.base.specs.Outcomes.{Outcome, answered, refused, and_then}
use Rattle.base.proofs.Inversion.{Says, by_step, Anything}
use Rattle.windows.specs.Windows.{Windows, with_windows, with_r, with_d, with_window, Formed}
use Rattle.windows.specs.Plans.{Plannable}
use Rattle.base.proofs.Sums.{le_or_lt, below_suc}
use Rattle.narrow.specs.Searching.{Test, least_start, greatest_end}
use Rattle.narrow.specs.Settling.{Settled, SettledInside, Widest}
use Rattle.narrow.specs.Rounds.{Side, earliest, latest, step, Narrowed, moved, moves_of, counted, narrow_side, visit, visits, round}
use Rattle.narrow.specs.Rounds.{rounds, slack}
use Rattle.narrow.specs.StepLists.{NothingLeft}
use Rattle.narrow.proofs.Planners.{Planner}
use Rattle.narrow.proofs.RoundsEnd.{rounds_by}
use Rattle.windows.proofs.Puts.{place_cases, put_same, put_back, with_r_lem, with_d_lem}
use Rattle.narrow.proofs.MirrorSettled.{SidePlan, set_formed}
use Rattle.narrow.proofs.SettledSteps.{Narrows, NarrowsOr, step_narrows, rounds_narrow}

-- Windows that no step changes.

module _ {test : Test} (planner : Planner test) (whole : ℕ → Bool) where
  -- each step leaves a plan with consecutive minutes on its side, and these windows
  nothing_settled : (w : Windows) → Formed w → Plannable w → NothingLeft test whole w → Settled whole w
  nothing_settled w formed planned nothing = record { plan = planned; from_r = left earliest; up_to_d = left latest }
    where
      left : (side : Side) (k : ℕ) → k < w.n → whole k ≡ true → SidePlan side w k
      left side k place q = (rw (nothing k side place q) at (step_narrows planner whole side w formed k place q)).plan

  -- settled sets stay inside on the way, so windows at which nothing is left to do are the widest
  pub nothing_widest : (w v : Windows) → Plannable w → Narrows whole w v → NothingLeft test whole v → Widest whole w v
  nothing_widest w v planned narrows nothing =
      record {
        entries = narrows.keeps.entries;
        inside = narrows.keeps.inside;
        settled = nothing_settled v narrows.keeps.formed (narrows.plannable planned) nothing;
        widest = λ r d set. let z = (narrows.stays r d set).inside in record { r = z.r; d = z.d };
      }

-- Rounds without moves.

-- no move is no change
unmoved_same : (a b : ℕ) → moved a b ≡ 0 → a ≡ b
unmoved_same a b = place_cases (λ t. ◌≡◌ {A = ℕ} (cond t 0 1) 0 → a ≡ b) a b (λ e _. e) (λ _ z. absurd (omega arith))

-- so a window of k put without a move leaves the windows as they are
window_still : (k : ℕ) (w : Windows) (s e : ℕ) → moves_of k w (with_window w k s e) ≡ 0 → with_window w k s e ≡ w
window_still k w s e none =
    let from : w.r k ≡ s = unmoved_same (w.r k) _ (omega arith) ∙ put_same k s w.r in
    let to : w.d k ≡ e = unmoved_same (w.d k) _ (omega arith) ∙ put_same k e w.d in
    (λ j. with_window w k (sym from j) (sym to j)) ∙ with_r_lem w k (w.r k) ∙ (λ j. with_windows w (put_back k w.r j) w.d)

-- what holds of every answer
by_answer : (P : Windows → Type 0) (o : Outcome ℕ) (f : ℕ → Windows) → ((x : ℕ) → P (f x))
    → Says P Anything (and_then o (λ x. answered (f x)))
by_answer P (answered x) f each = each x
by_answer P (refused k) f each = tt

-- and so does a step; whatever room the windows have, so not by the mirror
step_still : (test : Test) (side : Side) (k : ℕ) (w : Windows) → Says (λ v. moves_of k w v ≡ 0 → v ≡ w) Anything (step test side k w)
step_still test earliest k w =
    by_answer _ (least_start test w k) (with_r w k)
    (λ s. subst (λ v. moves_of k w v ≡ 0 → v ≡ w) (with_r_lem w k s) (window_still k w s (w.d k)))
step_still test latest k w =
    by_answer _ (greatest_end test w k) (with_d w k)
    (λ e. subst (λ v. moves_of k w v ≡ 0 → v ≡ w) (with_d_lem w k e) (window_still k w (w.r k) e))

-- from s to v: moves are only added, and if none is, nothing has changed and X holds
record Still (X : Type 0) (s v : Narrowed) : Type 0 where
  more : s.moves ≤ v.moves
  same : v.moves ≡ s.moves → (v ≡ s) × X

-- one outcome, then the next
still_then : (X Z : Type 0) (Y : Narrowed → Type 0) (s : Narrowed) (o : Outcome Narrowed) (f : Narrowed → Outcome Narrowed) → (X → Y s → Z)
    → Says (Still X s) Anything o → ((u : Narrowed) → Says (Still (Y u) u) Anything (f u)) → Says (Still Z s) Anything (and_then o f)
still_then X Z Y s o f both first rest = by_step _ _ _ o f first (λ u a. onward u a (f u) (rest u))
  where
    onward : (u : Narrowed) → Still X s u → (o : Outcome Narrowed) → Says (Still (Y u) u) Anything o → Says (Still Z s) Anything o
    onward u a (answered v) b =
        record {
          more = omega (arith, a.more, b.more);
          same =
              λ e.
              let x = a.same (omega (arith, a.more, b.more)) in
              let y = b.same (omega (arith, a.more, b.more)) in
              (y.0 ∙ x.0, both x.1 (rw x.0 at y.1));
        }
    onward u a (refused k) b = tt

-- nothing is done
still_idle : (X : Type 0) (s : Narrowed) → X → Still X s s
still_idle X s x = record { more = omega arith; same = λ _. (refl, x) }

module _ (test : Test) (whole : ℕ → Bool) where
  -- a step for entry k changes nothing
  abbrev Stays : Side → ℕ → Narrowed → Type 0
  Stays side k s = step test side k s.windows ≡ answered s.windows

  side_still : (side : Side) (k : ℕ) (s : Narrowed) → Says (Still (Stays side k s) s) Anything (narrow_side test side k s)
  unfolding narrow_side
  side_still side k s = go (step test side k s.windows) refl (step_still test side k s.windows)
    where
      go : (o : Outcome Windows) → step test side k s.windows ≡ o → Says (λ v. moves_of k s.windows v ≡ 0 → v ≡ s.windows) Anything o
          → Says (Still (Stays side k s) s) Anything
          (and_then o (λ v. answered (counted k s v)))
      go (answered v) e still =
          record {
            more = omega arith;
            same =
                λ q.
                let z = still (omega arith) in
                (λ i. record { windows = z i; moves = q i }, e ∙ ap answered z);
          }
      go (refused x) e still = tt

  -- neither step for it does, if it is whole
  abbrev Passed : ℕ → Narrowed → Type 0
  Passed k s = (side : Side) → whole k ≡ true → Stays side k s

  visit_still : (k : ℕ) (s : Narrowed) → Says (Still (Passed k s) s) Anything (visit test whole k s)
  unfolding visit
  visit_still k s = go (whole k) refl
    where
      both : Stays earliest k s → Stays latest k s → Passed k s
      both a b earliest _ = a
      both a b latest _ = b

      go : (t : Bool) → whole k ≡ t
          → Says (Still (Passed k s) s) Anything
          (cond t (and_then (narrow_side test earliest k s) (narrow_side test latest k)) (answered s))
      go true e =
          still_then (Stays earliest k s) (Passed k s) (Stays latest k) s (narrow_side test earliest k s) (narrow_side test latest k) both
          (side_still earliest k s)
          (side_still latest k)
      go false e = still_idle (Passed k s) s (λ side q. absurd (false≢true (sym e ∙ q)))

  visits_still : (k : ℕ) (s : Narrowed) → Says (Still ((i : ℕ) → i < k → Passed i s) s) Anything (visits test whole k s)
  unfolding visits
  visits_still zero s = still_idle _ s (λ i below. absurd (omega arith))
  visits_still (suc k) s =
      still_then ((i : ℕ) → i < k → Passed i s) _ (Passed k) s (visits test whole k s) (visit test whole k)
      (below_suc k (λ i. Passed i s))
      (visits_still k s)
      (visit_still k)

  -- a round without moves leaves the windows as they were, and nothing to do
  round_still : (s v : Narrowed) → round test whole s ≡ answered v → v.moves ≡ s.moves → (v ≡ s) × NothingLeft test whole v.windows
  round_still s v e none =
      let z = (rw e at (visits_still s.windows.n s)).same none in
      (z.0, rw z.0 (λ k side place q. z.1 k place side q))

  -- so rounds end with nothing to do
  pub rounds_end : (fuel : ℕ) (s : Narrowed) → Formed s.windows → slack whole s.windows < fuel
      → Says (λ v. NothingLeft test whole v.windows) Anything (rounds test whole fuel s)
  rounds_end =
      rounds_by test whole (λ _. Says (λ v. NothingLeft test whole v.windows) Anything)
      (λ s v _ e none. (round_still s v e none).1)
      (λ _ _ _ _ _ _ rest. rest)
      (λ _ _ _ _. tt)

-- so they answer the widest settled windows
pub rounds_widest : {test : Test} → Planner test → (whole : ℕ → Bool) (fuel : ℕ) (s : Narrowed) → Formed s.windows
    → Plannable s.windows → slack whole s.windows < fuel
    → Says (λ v. Widest whole s.windows v.windows) Anything (rounds test whole fuel s)
rounds_widest {test} planner whole fuel s formed planned enough =
    go (rounds test whole fuel s) (rounds_narrow planner whole fuel s formed) (rounds_end test whole fuel s formed enough)
  where
    go : (o : Outcome Narrowed) → NarrowsOr whole s.windows o → Says (λ v. NothingLeft test whole v.windows) Anything o
        → Says (λ v. Widest whole s.windows v.windows) Anything o
    go (answered v) a nothing = nothing_widest planner whole s.windows v.windows planned a nothing
    go (refused k) none nothing = tt

-- Two widest settled sets lie inside each other: they are the same windows, if they are the same past the entries.
module _ (whole : ℕ → Bool) (w : Windows) where
  pub widest_set : (v : Windows) → Widest whole w v → SettledInside whole w v.r v.d
  widest_set v a = record { inside = record { r = a.inside.r; d = a.inside.d }; settled = rw a.entries at a.settled }

  -- they leave each entry room
  pub widest_formed : (v : Windows) → Formed w → Widest whole w v → Formed v
  widest_formed v formed a = rw a.entries (set_formed whole w formed v.r v.d (widest_set v a))

  lies_inside : (v u : Windows) → Widest whole w v → Widest whole w u → (i : ℕ) → i < w.n → (u.r i ≤ v.r i) × (v.d i ≤ u.d i)
  lies_inside v u a b i place =
      let below : i < u.n = rw (ap (λ (x : Windows). x.n) b.entries) place in
      let z = b.widest v.r v.d (widest_set v a) in
      (z.r i below, z.d i below)

  pub widest_unique : (v u : Windows) → Widest whole w v → Widest whole w u → ((i : ℕ) → w.n ≤ i → (v.r i ≡ u.r i) × (v.d i ≡ u.d i))
      → v ≡ u
  widest_unique v u a b past =
      a.entries ∙ (λ j. with_windows w (fun_ext (λ i. (same i).0) j) (fun_ext (λ i. (same i).1) j)) ∙ sym b.entries
    where
      same : (i : ℕ) → (v.r i ≡ u.r i) × (v.d i ≡ u.d i)
      same i =
          le_or_lt w.n i (past i)
          (λ place.
          let x = lies_inside v u a b i place in
          let y = lies_inside u v b a i place in
          (omega (arith, x.0, y.0), omega (arith, x.1, y.1)))
