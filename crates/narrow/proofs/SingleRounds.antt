-- A round with moves made before it is the round without them, those moves added. So rounds may be made one by one.
-- Assumes nothing.
use mathlib.Core.Path.{◌≡◌, refl, ap, ◌∙◌}
use mathlib.Core.Bool.{Bool, true, false, cond}
use Prim.Native.Nat.{ℕ, zero, suc, ◌+◌}
use native.Mathlib.Omega.{arith}
use Rattle.base.specs.Outcomes.{Outcome, answered, refused, and_then}
use Rattle.windows.specs.Windows.{Windows}
use Rattle.narrow.specs.Searching.{Test}
use Rattle.narrow.specs.Rounds.{Side, earliest, latest, step, Narrowed, unmoved, moves_of, counted, narrow_side, visit, visits}
use Rattle.narrow.specs.Rounds.{moved_before, round}

-- with m moves made before
abbrev after : ℕ → Narrowed → Narrowed
after m v = record { windows = v.windows; moves = m + v.moves }

module _ (test : Test) (whole : ℕ → Bool) (m : ℕ) where
  side_after : (side : Side) (k : ℕ) (s : Narrowed) → narrow_side test side k (after m s) ≡ moved_before m (narrow_side test side k s)
  unfolding narrow_side
  side_after side k s = go (step test side k s.windows)
    where
      go : (o : Outcome Windows)
          → and_then o (λ v. answered (counted k (after m s) v)) ≡ moved_before m (and_then o (λ v. answered (counted k s v)))
      go (answered v) =
          let z : m + s.moves + moves_of k s.windows v ≡ m + (s.moves + moves_of k s.windows v) = omega arith in
          ap (λ (x : ℕ). answered (record { windows = v; moves = x })) z
      go (refused k) = refl

  -- one thing after another
  then_after : (o : Outcome Narrowed) (f : Narrowed → Outcome Narrowed) → ((s : Narrowed) → f (after m s) ≡ moved_before m (f s))
      → and_then (moved_before m o) f ≡ moved_before m (and_then o f)
  then_after (answered s) f same = same s
  then_after (refused k) f same = refl

  visit_after : (k : ℕ) (s : Narrowed) → visit test whole k (after m s) ≡ moved_before m (visit test whole k s)
  unfolding visit
  visit_after k s = go (whole k)
    where
      go : (t : Bool) → cond t (and_then (narrow_side test earliest k (after m s)) (narrow_side test latest k)) (answered (after m s))
          ≡ moved_before m (cond t (and_then (narrow_side test earliest k s) (narrow_side test latest k)) (answered s))
      go true = rw (side_after earliest k s) (then_after (narrow_side test earliest k s) (narrow_side test latest k) (side_after latest k))
      go false = refl

  visits_after : (k : ℕ) (s : Narrowed) → visits test whole k (after m s) ≡ moved_before m (visits test whole k s)
  unfolding visits
  visits_after zero s = refl
  visits_after (suc k) s = rw (visits_after k s) (then_after (visits test whole k s) (visit test whole k) (visit_after k))

-- a round, from the windows as if nothing had moved
pub round_after : (test : Test) (whole : ℕ → Bool) (s : Narrowed)
    → round test whole s ≡ moved_before s.moves (round test whole (unmoved s.windows))
round_after test whole s =
    let z : s.moves ≡ s.moves + 0 = omega arith in
    ap (λ (x : ℕ). round test whole (record { windows = s.windows; moves = x })) z
    ∙ visits_after test whole s.moves s.windows.n (unmoved s.windows)
