-- Rounds end, and what is shown of each of them is so shown of all.
-- Assumes nothing.
use mathlib.Core.Path.{◌≡◌, refl}
use mathlib.Core.Bool.{Bool, cond}
use Prim.Native.Nat.{ℕ, zero, suc, ◌<◌}
use native.Mathlib.Omega.{arith}
use borrow.Author.Tests.{eqb-true, eqb-false, eq-eqb, ne_eqb}
use lib.Dec.{eqb}
use Rattle.base.specs.Outcomes.{Code, Outcome, answered, refused, and_then}
use Rattle.narrow.specs.Searching.{Test}
use Rattle.narrow.specs.Rounds.{Narrowed, round, rounds, slack}
use Rattle.windows.specs.Windows.{Formed}
use Rattle.narrow.proofs.Costs.{Costs, by_test, round_cost}

module _ (test : Test) (whole : ℕ → Bool) (P : Narrowed → Outcome Narrowed → Type 0)
    (last : (s v : Narrowed) → Formed s.windows → round test whole s ≡ answered v → v.moves ≡ s.moves → P s (answered v))
    (next : (s v : Narrowed) (o : Outcome Narrowed) → Formed s.windows → round test whole s ≡ answered v
    → (v.moves ≡ s.moves → ⊥) → P v o → P s o)
    (stopped : (s : Narrowed) (k : Code) → Formed s.windows → round test whole s ≡ refused k → P s (refused k)) where
  -- what holds of a round without moves and of a refused one, and of one more round before it, holds of the rounds: each but the last cuts
  -- a minute, so that this many are enough
  pub rounds_by : (fuel : ℕ) (s : Narrowed) → Formed s.windows → slack whole s.windows < fuel → P s (rounds test whole fuel s)
  unfolding rounds
  rounds_by zero s formed enough = absurd (omega arith)
  rounds_by (suc fuel) s formed enough = go (round test whole s) refl (λ v c. rounds_by fuel v c.keeps.formed)
    where
      go : (o : Outcome Narrowed) → round test whole s ≡ o
          → ((v : Narrowed) → Costs whole s v → slack whole v.windows < fuel → P v (rounds test whole fuel v))
          → P s (and_then o (λ v. cond (eqb v.moves s.moves) (answered v) (rounds test whole fuel v)))
      go (refused x) e rest = stopped s x formed e
      go (answered v) e rest =
          let c = round_cost test whole s formed v e in
          by_test (P s) (eqb v.moves s.moves) _ _
          (λ q. last s v formed e (eqb-true v.moves s.moves q))
          (λ q.
          let ne = eqb-false v.moves s.moves q in
          next s v _ formed e ne (rest v c (omega (arith, c.more, c.bounded))))

-- more rounds than are enough change nothing
pub rounds_enough : (test : Test) (whole : ℕ → Bool) (fuel more : ℕ) (s : Narrowed) → Formed s.windows
    → slack whole s.windows < fuel → slack whole s.windows < more → rounds test whole fuel s ≡ rounds test whole more s
unfolding rounds
rounds_enough test whole fuel more s formed enough =
    rounds_by test whole (λ s o. (k : ℕ) → slack whole s.windows < k → o ≡ rounds test whole k s) last next stopped fuel s formed enough
    more
  where
    last : (s v : Narrowed) → Formed s.windows → round test whole s ≡ answered v → v.moves ≡ s.moves
        → (k : ℕ) → slack whole s.windows < k → answered v ≡ rounds test whole k s
    last s v formed e q zero h = absurd (omega arith)
    last s v formed e q (suc k) h = rw (e, eq-eqb v.moves s.moves q)

    next : (s v : Narrowed) (o : Outcome Narrowed) → Formed s.windows → round test whole s ≡ answered v
        → (v.moves ≡ s.moves → ⊥) → ((k : ℕ) → slack whole v.windows < k → o ≡ rounds test whole k v)
        → (k : ℕ) → slack whole s.windows < k → o ≡ rounds test whole k s
    next s v o formed e ne rest zero h = absurd (omega arith)
    next s v o formed e ne rest (suc k) h =
        let c = round_cost test whole s formed v e in
        rw (e, ne_eqb v.moves s.moves ne) (rest k (omega (arith, c.more, c.bounded, ne)))

    stopped : (s : Narrowed) (x : Code) → Formed s.windows → round test whole s ≡ refused x
        → (k : ℕ) → slack whole s.windows < k → refused x ≡ rounds test whole k s
    stopped s x formed e zero h = absurd (omega arith)
    stopped s x formed e (suc k) h = rw e
