-- A round is the list of its steps: as plans have them, and as a list of steps leaves windows.
-- Assumes nothing.
use mathlib.Core.Path.{◌≡◌, refl, ap, ◌∙◌}
use mathlib.Core.Bool.{Bool, true, false, cond, not, ◌||◌, false≢true}
use mathlib.Core.List.{List, [], ◌∷◌, ◌++◌}
use Prim.Native.Nat.{ℕ, zero, suc, ◌<◌, ◌≤◌}
use native.Mathlib.Omega.{arith}
use Rattle.base.specs.Outcomes.{Code, Outcome, answered, refused, and_then, accepts}
use Rattle.base.proofs.Inversion.{Says, answered_same, refused_same, answered_refused}
use Rattle.windows.specs.Windows.{Windows, with_r, with_d, Formed}
use Rattle.windows.specs.FixedEntries.{IsLeastStart, NoStart, IsGreatestEnd, NoEnd}
use Rattle.narrow.specs.Searching.{Test, least_start, greatest_end}
use Rattle.narrow.specs.Rounds.{Side, earliest, latest, step, Narrowed, counted, narrow_side, visit, visits, round, rounds, slack}
use Rattle.narrow.specs.StepLists.{Step, NamesWhole, steps_leave, some_refused}
use Rattle.narrow.specs.RoundsByPlans.{StepGives, start, no_start, end, no_end, StepsGive, done, found, none, visit_steps, round_steps}
use Rattle.narrow.specs.RoundsByPlans.{RoundGives, RoundsGive, last, next, stopped, rounds_steps}
use Rattle.narrow.proofs.Planners.{Planner}
use Rattle.narrow.proofs.StepsKeep.{keeps_n}
use Rattle.narrow.proofs.Costs.{Costs, CostsOr, side_says, visits_says, round_cost}
use Rattle.narrow.proofs.RoundsEnd.{rounds_by}
use Rattle.narrow.proofs.Exact.{SearchSays, one_least_start, one_greatest_end, some_start, some_end, start_searched, end_searched}

-- Steps one after the other.

steps_append : {xs : List Step} {s u : Narrowed} {o : Outcome Narrowed} (ys : List Step) → StepsGive xs s (answered u) → StepsGive ys u o
    → StepsGive (xs ++ ys) s o
steps_append ys done more = more
steps_append ys (found a rest) more = found a (steps_append ys rest more)

steps_stopped : {xs : List Step} {s : Narrowed} {k : Code} (ys : List Step) → StepsGive xs s (refused k)
    → StepsGive (xs ++ ys) s (refused k)
steps_stopped ys (found a rest) = found a (steps_stopped ys rest)
steps_stopped ys (none a) = none a

-- names of whole entries
names_append : (whole : ℕ → Bool) (n : ℕ) (xs ys : List Step) → NamesWhole whole n xs → NamesWhole whole n ys
    → NamesWhole whole n (xs ++ ys)
names_append whole n [] ys a b = b
names_append whole n (x ∷ xs) ys a b = (a.0, a.1, names_append whole n xs ys a.2 b)

-- a step is refused, or a later one is
or_some : (o : Outcome Windows) (b : Bool) → b ≡ true → (not (accepts o) || b) ≡ true
or_some (answered v) b e = e
or_some (refused k) b e = refl

or_later : (o : Outcome Windows) (a b : Bool) → (a ≡ true → b ≡ true) → (not (accepts o) || a) ≡ true → (not (accepts o) || b) ≡ true
or_later (answered v) a b f e = f e
or_later (refused k) a b f e = refl

module _ (test : Test) where
  leave_append : (xs ys : List Step) (w : Windows) → steps_leave test (xs ++ ys) w ≡ steps_leave test ys (steps_leave test xs w)
  unfolding steps_leave
  leave_append [] ys w = refl
  leave_append (x ∷ xs) ys w = leave_append xs ys _

  some_first : (xs ys : List Step) (w : Windows) → some_refused test xs w ≡ true → some_refused test (xs ++ ys) w ≡ true
  unfolding some_refused
  some_first [] ys w e = absurd (false≢true e)
  some_first (x ∷ xs) ys w e = or_later (step test x.side x.place w) _ _ (some_first xs ys _) e

  some_second : (xs ys : List Step) (w : Windows) → some_refused test ys (steps_leave test xs w) ≡ true
      → some_refused test (xs ++ ys) w ≡ true
  unfolding some_refused steps_leave
  some_second [] ys w e = e
  some_second (x ∷ xs) ys w e = or_some (step test x.side x.place w) _ (some_second xs ys _ e)

-- an outcome of the steps xs from s: as plans have it, and as they leave windows or are refused
pub record AsSteps (test : Test) (xs : List Step) (s : Narrowed) (o : Outcome Narrowed) : Type 0 where
  pub gives : StepsGive xs s o
  pub leaves : Says (λ v. steps_leave test xs s.windows ≡ v.windows) (λ _. some_refused test xs s.windows ≡ true) o

-- an answer, then an outcome; a refusal stays
after_steps : (test : Test) (xs ys : List Step) (s u : Narrowed) (o : Outcome Narrowed)
    → AsSteps test xs s (answered u) → AsSteps test ys u o → AsSteps test (xs ++ ys) s o
after_steps test xs ys s u (answered v) a b =
    record { gives = steps_append ys a.gives b.gives; leaves = leave_append test xs ys s.windows ∙ rw a.leaves b.leaves }
after_steps test xs ys s u (refused k) a b =
    record { gives = steps_append ys a.gives b.gives; leaves = some_second test xs ys s.windows (rw a.leaves b.leaves) }

refused_steps : (test : Test) (xs ys : List Step) (s : Narrowed) (k : Code) → AsSteps test xs s (refused k)
    → AsSteps test (xs ++ ys) s (refused k)
refused_steps test xs ys s k a = record { gives = steps_stopped ys a.gives; leaves = some_first test xs ys s.windows a.leaves }

-- one outcome, then the next
then_steps : (test : Test) (whole : ℕ → Bool) (xs ys : List Step) (s : Narrowed) (o : Outcome Narrowed) (f : Narrowed → Outcome Narrowed)
    → CostsOr whole s o → AsSteps test xs s o → ((u : Narrowed) → Costs whole s u → AsSteps test ys u (f u))
    → AsSteps test (xs ++ ys) s (and_then o f)
then_steps test whole xs ys s (answered u) f costs a rest = after_steps test xs ys s u (f u) a (rest u costs)
then_steps test whole xs ys s (refused k) f ten a rest = refused_steps test xs ys s k a

-- Steps, visits and rounds.

module _ {test : Test} (planner : Planner test) (whole : ℕ → Bool) where
  -- what a step gives, as plans have it
  step_gives : (side : Side) (w : Windows) → Formed w → (k : ℕ) → k < w.n → StepGives k w side (step test side k w)
  step_gives earliest w formed k place = go (least_start test w k) (start_searched planner w formed k place)
    where
      go : (o : Outcome ℕ) → SearchSays (IsLeastStart w k) (NoStart w k) k o
          → StepGives k w earliest (and_then o (λ s. answered (with_r w k s)))
      go (answered s) is = start is
      go (refused x) (ten, nowhere) = rw ten (no_start nowhere)
  step_gives latest w formed k place = go (greatest_end test w k) (end_searched planner w formed k place)
    where
      go : (o : Outcome ℕ) → SearchSays (IsGreatestEnd w k) (NoEnd w k) k o
          → StepGives k w latest (and_then o (λ e. answered (with_d w k e)))
      go (answered e) is = end is
      go (refused x) (ten, nowhere) = rw ten (no_end nowhere)

  side_steps : (side : Side) (k : ℕ) (s : Narrowed) → Formed s.windows → k < s.windows.n
      → AsSteps test (record { place = k; side = side } ∷ []) s (narrow_side test side k s)
  unfolding narrow_side steps_leave some_refused
  side_steps side k s formed place = go (step test side k s.windows) refl (step_gives side s.windows formed k place)
    where
      go : (o : Outcome Windows) → step test side k s.windows ≡ o → StepGives k s.windows side o
          → AsSteps test (record { place = k; side = side } ∷ []) s (and_then o (λ v. answered (counted k s v)))
      go (answered v) e is = record { gives = found is done; leaves = rw e }
      go (refused x) e is = record { gives = none is; leaves = rw e }

  visit_steps_lem : (k : ℕ) (s : Narrowed) → Formed s.windows → k < s.windows.n
      → AsSteps test (cond (whole k) (visit_steps k) []) s (visit test whole k s)
  unfolding visit steps_leave
  visit_steps_lem k s formed place = go (whole k) refl
    where
      go : (t : Bool) → whole k ≡ t
          → AsSteps test (cond t (visit_steps k) []) s
          (cond t (and_then (narrow_side test earliest k s) (narrow_side test latest k)) (answered s))
      go false e = record { gives = done; leaves = refl }
      go true e =
          then_steps test whole (record { place = k; side = earliest } ∷ []) (record { place = k; side = latest } ∷ []) s
          (narrow_side test earliest k s) (narrow_side test latest k)
          (side_says test whole k earliest s formed place e)
          (side_steps earliest k s formed place)
          (λ u c. side_steps latest k u c.keeps.formed (omega (arith, keeps_n c.keeps)))

  visits_steps : (k : ℕ) (s : Narrowed) → Formed s.windows → k ≤ s.windows.n
      → AsSteps test (round_steps whole k) s (visits test whole k s)
  unfolding visits round_steps steps_leave
  visits_steps zero s formed below = record { gives = done; leaves = refl }
  visits_steps (suc k) s formed below =
      then_steps test whole (round_steps whole k) _ s (visits test whole k s) (visit test whole k)
      (visits_says test whole s formed k (omega arith))
      (visits_steps k s formed (omega arith))
      (λ u c. visit_steps_lem k u c.keeps.formed (omega (arith, keeps_n c.keeps)))

  round_steps_lem : (s : Narrowed) → Formed s.windows → AsSteps test (round_steps whole s.windows.n) s (round test whole s)
  round_steps_lem s formed = visits_steps s.windows.n s formed (omega arith)

  -- a round gives what the one of document 01 gives
  pub round_gives : (s : Narrowed) → Formed s.windows → RoundGives whole s (round test whole s)
  round_gives s formed = (round_steps_lem s formed).gives

  -- and so do the rounds
  pub rounds_give : (fuel : ℕ) (s : Narrowed) → Formed s.windows → slack whole s.windows < fuel
      → RoundsGive whole s (rounds test whole fuel s)
  rounds_give =
      rounds_by test whole (RoundsGive whole)
      (λ s v formed e same. last (rw e at (round_gives s formed)) same)
      (λ s v o formed e moved rest. next (rw e at (round_gives s formed)) moved rest)
      (λ s k formed e. stopped (rw e at (round_gives s formed)))

  -- which are a list of steps
  pub rounds_as_steps : (n fuel : ℕ) (s : Narrowed) → Formed s.windows → slack whole s.windows < fuel → s.windows.n ≡ n
      → (m : ℕ) × AsSteps test (rounds_steps whole n m) s (rounds test whole fuel s)
  unfolding steps_leave
  rounds_as_steps n =
      rounds_by test whole (λ s o. s.windows.n ≡ n → (m : ℕ) × AsSteps test (rounds_steps whole n m) s o)
      (λ s v formed e _ count.
      (1, after_steps test _ [] s v (answered v) (one s formed count (answered v) e) (record { gives = done; leaves = refl })))
      (λ s v o formed e _ rest count.
      let more = rest (omega (arith, count, keeps_n (round_cost test whole s formed v e).keeps)) in
      (suc more.0, after_steps test _ _ s v o (one s formed count (answered v) e) more.1))
      (λ s k formed e count. (1, refused_steps test _ [] s k (one s formed count (refused k) e)))
    where
      one : (s : Narrowed) → Formed s.windows → s.windows.n ≡ n → (o : Outcome Narrowed) → round test whole s ≡ o
          → AsSteps test (round_steps whole n) s o
      one s formed count o e = rw (← count, ← e) (round_steps_lem s formed)

-- each for a whole entry
names_round : (whole : ℕ → Bool) (n k : ℕ) → k ≤ n → NamesWhole whole n (round_steps whole k)
unfolding round_steps
names_round whole n zero below = tt
names_round whole n (suc k) below = names_append whole n (round_steps whole k) _ (names_round whole n k (omega arith)) (go (whole k) refl)
  where
    go : (t : Bool) → whole k ≡ t → NamesWhole whole n (cond t (visit_steps k) [])
    go true e = (omega arith, e, (omega arith, e, tt))
    go false e = tt

pub names_rounds : (whole : ℕ → Bool) (n m : ℕ) → NamesWhole whole n (rounds_steps whole n m)
names_rounds whole n zero = tt
names_rounds whole n (suc m) = names_append whole n (round_steps whole n) _ (names_round whole n n (omega arith)) (names_rounds whole n m)

-- Steps and rounds give one outcome.

step_unique : {k : ℕ} {w : Windows} {side : Side} {a b : Outcome Windows} → StepGives k w side a → StepGives k w side b → a ≡ b
step_unique {k} {w} (start a) (start b) = ap (λ s. answered (with_r w k s)) (one_least_start w k _ _ a b)
step_unique {k} {w} (start a) (no_start b) = absurd (some_start w k _ a b)
step_unique {k} {w} (no_start a) (start b) = absurd (some_start w k _ b a)
step_unique (no_start a) (no_start b) = refl
step_unique {k} {w} (end a) (end b) = ap (λ e. answered (with_d w k e)) (one_greatest_end w k _ _ a b)
step_unique {k} {w} (end a) (no_end b) = absurd (some_end w k _ a b)
step_unique {k} {w} (no_end a) (end b) = absurd (some_end w k _ b a)
step_unique (no_end a) (no_end b) = refl

steps_unique : {xs : List Step} {s : Narrowed} {a b : Outcome Narrowed} → StepsGive xs s a → StepsGive xs s b → a ≡ b
steps_unique done done = refl
steps_unique (found a rest) (found b more) = steps_unique rest (rw (answered_same refl (step_unique a b)) more)
steps_unique (found a rest) (none b) = absurd (answered_refused refl (step_unique a b))
steps_unique (none a) (found b more) = absurd (answered_refused refl (step_unique b a))
steps_unique (none a) (none b) = ap refused (refused_same refl (step_unique a b))

pub rounds_unique : {whole : ℕ → Bool} {s : Narrowed} {a b : Outcome Narrowed} → RoundsGive whole s a → RoundsGive whole s b → a ≡ b
rounds_unique (last e q) (last f z) = steps_unique e f
rounds_unique (last e q) (next f ne rest) = absurd (ne (rw (← answered_same refl (steps_unique e f)) q))
rounds_unique (last e q) (stopped f) = steps_unique e f
rounds_unique (next e ne rest) (last f q) = absurd (ne (rw (answered_same refl (steps_unique e f)) q))
rounds_unique (next e ne rest) (next f _ more) = rounds_unique rest (rw (answered_same refl (steps_unique e f)) more)
rounds_unique (next e ne rest) (stopped f) = absurd (answered_refused refl (steps_unique e f))
rounds_unique (stopped e) (last f q) = steps_unique e f
rounds_unique (stopped e) (next f ne rest) = absurd (answered_refused refl (steps_unique f e))
rounds_unique (stopped e) (stopped f) = steps_unique e f
