-- What moves cost: each takes one of the minutes that can be cut. Nothing here asks what the test accepts.
-- Assumes nothing.
use mathlib.Core.Path.{◌≡◌, refl}
use mathlib.Core.Bool.{Bool, true, false, cond}
use Prim.Native.Nat.{ℕ, zero, suc, ◌+◌, ◌-◌, ◌<◌, ◌≤◌}
use native.Mathlib.Omega.{arith}
use borrow.Author.Tests.{eq-eqb}
use lib.Dec.{eqb}
use Rattle.base.specs.Outcomes.{Code, Outcome, answered, refused, and_then}
use Rattle.base.proofs.Inversion.{Says, by_step}
use Rattle.windows.specs.Windows.{Windows, Formed}
use Rattle.base.proofs.Sums.{sum_le, sum_add, term_le}
use Rattle.narrow.specs.Searching.{Test}
use Rattle.narrow.specs.Settling.{minutes_cut}
use Rattle.narrow.specs.Rounds.{Side, earliest, latest, step, Narrowed, moved, moves_of, counted, narrow_side, visit, visits, round}
use Rattle.narrow.specs.Rounds.{rounds, slack}
use Rattle.narrow.specs.Laws.{WholeRefused}
use Rattle.windows.proofs.Puts.{place_cases}
use Rattle.narrow.proofs.StepsKeep.{Keeps, keeps_same, keeps_n, keeps_p, keeps_trans, RefusedAt, step_says}

-- from s to v: windows are kept, and each move takes one of the minutes that can be cut and is one of the minutes cut
pub record Costs (whole : ℕ → Bool) (s v : Narrowed) : Type 0 where
  pub keeps : Keeps s.windows v.windows
  pub more : s.moves ≤ v.moves
  pub bounded : v.moves + slack whole v.windows ≤ s.moves + slack whole s.windows
  pub cut : v.moves ≤ s.moves + minutes_cut s.windows v.windows

pub costs_same : (whole : ℕ → Bool) (s : Narrowed) → Formed s.windows → Costs whole s s
costs_same whole s formed = record { keeps = keeps_same s.windows formed; more = omega arith; bounded = omega arith; cut = omega arith }

-- minutes cut add up
cut_trans : {u v w : Windows} → Keeps u v → Keeps v w → minutes_cut u v + minutes_cut v w ≤ minutes_cut u w
cut_trans {u} {v} {w} a b = rw (keeps_n a) (omega (arith, sum_add u.n (cut u v) (cut v w), sum_le u.n _ _ each))
  where
    cut : Windows → Windows → ℕ → ℕ
    cut x y i = (y.r i - x.r i) + (x.d i - y.d i)

    each : (i : ℕ) → i < u.n → cut u v i + cut v w i ≤ cut u w i
    each i place =
        let below : i < v.n = omega (arith, keeps_n a) in
        omega (arith, a.inside.r i place, a.inside.d i place, b.inside.r i below, b.inside.d i below)

costs_trans : {whole : ℕ → Bool} {u v w : Narrowed} → Costs whole u v → Costs whole v w → Costs whole u w
costs_trans a b =
    record {
      keeps = keeps_trans a.keeps b.keeps;
      more = omega (arith, a.more, b.more);
      bounded = omega (arith, a.bounded, b.bounded);
      cut = omega (arith, a.cut, b.cut, cut_trans a.keeps b.keeps);
    }

-- what stays is no move
pub moved_same : (a : ℕ) → moved a a ≡ 0
moved_same a = rw (eq-eqb a a refl)

-- a move is one of the minutes cut
moved_cut : (a b : ℕ) → moved a b ≤ (b - a) + (a - b)
moved_cut a b = place_cases (λ t. cond t 0 1 ≤ (b - a) + (a - b)) a b (λ e. omega arith) (λ ne. omega arith)

module _ (whole : ℕ → Bool) {w v : Windows} (keeps : Keeps w v) where
  entry_cut : (i : ℕ) → i < w.n → moves_of i w v ≤ (v.r i - w.r i) + (w.d i - v.d i)
  entry_cut i place =
      omega (arith, moved_cut (w.r i) (v.r i), moved_cut (w.d i) (v.d i), keeps.inside.r i place, keeps.inside.d i place)

  entry_paid : (i : ℕ) → i < w.n → (v.d i - (v.r i + v.p i)) + moves_of i w v ≤ w.d i - (w.r i + w.p i)
  entry_paid i place =
      let room = keeps.formed.room i (omega (arith, keeps_n keeps)) in
      omega (arith, entry_cut i place, keeps.inside.r i place, keeps.inside.d i place, keeps_p keeps i, room)

  module _ (k : ℕ) (place : k < w.n) where
    moves_cut : moves_of k w v ≤ minutes_cut w v
    moves_cut = omega (arith, entry_cut k place, term_le w.n (λ i. (v.r i - w.r i) + (w.d i - v.d i)) k place)

    moves_paid : whole k ≡ true → moves_of k w v + slack whole v ≤ slack whole w
    moves_paid is =
        rw (keeps_n keeps)
        (omega (arith, rw is at (term_le w.n cost k place), sum_add w.n left cost, sum_le w.n (λ i. left i + cost i) _ each))
      where
        left : ℕ → ℕ
        left i = cond (whole i) (v.d i - (v.r i + v.p i)) 0

        cost : ℕ → ℕ
        cost i = cond (whole i) (moves_of i w v) 0

        each : (i : ℕ) → i < w.n → left i + cost i ≤ cond (whole i) (w.d i - (w.r i + w.p i)) 0
        each i below = go (whole i)
          where
            go : (t : Bool) → cond t (v.d i - (v.r i + v.p i)) 0 + cond t (moves_of i w v) 0 ≤ cond t (w.d i - (w.r i + w.p i)) 0
            go true = entry_paid i below
            go false = omega arith

-- what holds of both branches
pub by_test : {A : Type 0} (P : A → Type 0) (t : Bool) (a b : A) → (t ≡ true → P a) → (t ≡ false → P b) → P (cond t a b)
by_test P true a b f g = f refl
by_test P false a b f g = g refl

-- the outcome of what starts with s
abbrev pub CostsOr : (ℕ → Bool) → Narrowed → Outcome Narrowed → Type 0
CostsOr whole s = Says (Costs whole s) (WholeRefused whole s.windows.n)

-- one thing after another
and_then_lem : (whole : ℕ → Bool) (s : Narrowed) (o : Outcome Narrowed) (f : Narrowed → Outcome Narrowed) → CostsOr whole s o
    → ((u : Narrowed) → Costs whole s u → CostsOr whole u (f u)) → CostsOr whole s (and_then o f)
and_then_lem whole s o f first rest = by_step (Costs whole s) _ (Costs whole s) o f first (λ u c. after u c (f u) (rest u c))
  where
    after : (u : Narrowed) → Costs whole s u → (o : Outcome Narrowed) → CostsOr whole u o → CostsOr whole s o
    after u c (answered v) says = costs_trans c says
    after u c (refused x) (i, below, is, ten) = (i, omega (arith, keeps_n c.keeps), is, ten)

module _ (test : Test) (whole : ℕ → Bool) where
  module _ (k : ℕ) where
    pub side_says : (side : Side) (s : Narrowed) → Formed s.windows → k < s.windows.n → whole k ≡ true
        → CostsOr whole s (narrow_side test side k s)
    unfolding narrow_side
    side_says side s formed place is = go (step test side k s.windows) (step_says s.windows formed k place test side)
      where
        go : (o : Outcome Windows) → Says (Keeps s.windows) (RefusedAt k) o
            → CostsOr whole s (and_then o (λ v. answered (counted k s v)))
        go (answered v) keeps =
            record {
              keeps = keeps;
              more = omega arith;
              bounded = omega (arith, moves_paid whole keeps k place is);
              cut = omega (arith, moves_cut whole keeps k place);
            }
        go (refused x) ten = (k, place, is, ten)

    pub visit_says : (s : Narrowed) → Formed s.windows → k < s.windows.n → CostsOr whole s (visit test whole k s)
    unfolding visit
    visit_says s formed place =
        by_test (CostsOr whole s) (whole k) _ _
        (λ is.
        and_then_lem whole s (narrow_side test earliest k s) (narrow_side test latest k) (side_says earliest s formed place is)
        (λ u c. side_says latest u c.keeps.formed (omega (arith, keeps_n c.keeps)) is))
        (λ _. costs_same whole s formed)

  module _ (s : Narrowed) (formed : Formed s.windows) where
    pub visits_says : (k : ℕ) → k ≤ s.windows.n → CostsOr whole s (visits test whole k s)
    unfolding visits
    visits_says zero below = costs_same whole s formed
    visits_says (suc k) below =
        and_then_lem whole s (visits test whole k s) (visit test whole k) (visits_says k (omega arith))
        (λ u c. visit_says k u c.keeps.formed (omega (arith, keeps_n c.keeps)))

    pub round_says : CostsOr whole s (round test whole s)
    round_says = visits_says s.windows.n (omega arith)

  pub rounds_says : (fuel : ℕ) (s : Narrowed) → Formed s.windows → CostsOr whole s (rounds test whole fuel s)
  unfolding rounds
  rounds_says zero s formed = costs_same whole s formed
  rounds_says (suc fuel) s formed =
      and_then_lem whole s (round test whole s) _ (round_says s formed)
      (λ u c.
      by_test (CostsOr whole u) (eqb u.moves s.moves) _ _
      (λ _. costs_same whole u c.keeps.formed)
      (λ _. rounds_says fuel u c.keeps.formed))

module _ (test : Test) (whole : ℕ → Bool) (s : Narrowed) (formed : Formed s.windows) where
  pub side_cost : (side : Side) (k : ℕ) → k < s.windows.n → whole k ≡ true → (v : Narrowed) → narrow_side test side k s ≡ answered v
      → Costs whole s v
  side_cost side k place is v e = rw e at (side_says test whole k side s formed place is)

  pub visits_cost : (k : ℕ) → k ≤ s.windows.n → (v : Narrowed) → visits test whole k s ≡ answered v → Costs whole s v
  visits_cost k below v e = rw e at (visits_says test whole s formed k below)

  pub round_cost : (v : Narrowed) → round test whole s ≡ answered v → Costs whole s v
  round_cost v e = rw e at (round_says test whole s formed)

  pub round_refused : (x : Code) → round test whole s ≡ refused x → WholeRefused whole s.windows.n x
  round_refused x e = rw e at (round_says test whole s formed)

  pub rounds_cost : (fuel : ℕ) (v : Narrowed) → rounds test whole fuel s ≡ answered v → Costs whole s v
  rounds_cost fuel v e = rw e at (rounds_says test whole fuel s formed)
