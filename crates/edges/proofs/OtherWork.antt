-- The work of intervals with entry k in another window [s, e): that of the others, and k's own minutes. With the law of plans: a plan
-- exists for that window exactly if no interval that holds it has too much work of the others.
-- Assumes nothing.
use mathlib.Core.Path.{◌≡◌, refl, ap}
use mathlib.Core.Bool.{Bool, true, false, cond, ◌&&◌}
use Prim.Native.Nat.{ℕ, ◌+◌, ◌-◌, ◌<◌, ◌≤◌}
use native.Mathlib.Omega.{arith}
use borrow.Author.Tests.{eq-eqb, ne_eqb}
use lib.Dec.{leb}
use Rattle.base.proofs.Sums.{between_is, between_le}
use Rattle.base.proofs.Permutations.{sum_apart}
use Rattle.windows.specs.Windows.{Windows, with_window, Formed}
use Rattle.windows.specs.Plans.{Plannable}
use Rattle.windows.specs.Intervals.{work, Fits}
use Rattle.windows.proofs.IntervalWork.{in_interval}
use Rattle.windows.proofs.Puts.{own_window}
use Rattle.windows.proofs.Room.{formed_roomy}
use Rattle.jackson.specs.Laws.{PlanLaw}
use Rattle.jackson.proofs.Law.{plan_law}
use Rattle.edges.specs.Starts.{others}

cond_none : (t : Bool) → ◌≡◌ {A = ℕ} (cond t 0 0) 0
cond_none true = refl
cond_none false = refl

-- the work with entry k in [s, e) is that of the others, and k's minutes if [s, e) lies in the interval
work_split : (w : Windows) (k s e a b : ℕ) → k < w.n
    → work (with_window w k s e) a b ≡ work (others w k) a b + cond (leb a s && leb e b) (w.p k) 0
unfolding work
work_split w k s e a b place =
    let f : ℕ → ℕ = in_interval (with_window w k s e) a b in
    let g : ℕ → ℕ = in_interval (others w k) a b in
    let here : f k ≡ cond (leb a s && leb e b) (w.p k) 0 = rw (eq-eqb k k refl) refl in
    let none : g k ≡ 0 = rw (eq-eqb k k refl) (cond_none (leb a (w.r k) && leb (w.d k) b)) in
    omega (arith, here, none, sum_apart w.n k f g place (λ i _ ne. rw (ne_eqb i k ne) refl))

module _ (w : Windows) (k : ℕ) (place : k < w.n) where
  own_split : (a b : ℕ) → work w a b ≡ work (others w k) a b + cond (leb a (w.r k) && leb (w.d k) b) (w.p k) 0
  own_split a b =
      let same : work (with_window w k (w.r k) (w.d k)) a b ≡ work w a b = ap (λ (v : Windows). work v a b) (own_window w k) in
      omega (arith, same, work_split w k (w.r k) (w.d k) a b place)

  -- up to a minute before k's d all work is that of the others
  pub others_before : (a b : ℕ) → b < w.d k → work (others w k) a b ≡ work w a b
  others_before a b late =
      omega (arith, own_split a b, between_le a b (w.r k) (w.d k) (w.p k) 0 (λ _ l. omega (arith, l)))

  -- the others have no more work than there is
  pub others_less : (a b : ℕ) → work (others w k) a b ≤ work w a b
  others_less a b = omega (arith, own_split a b)

  -- where no [a, b) has more work than minutes, there is room for the others and k in an interval that holds its window
  module _ (fits : Fits w) where
    pub others_fit : Fits (others w k)
    others_fit a b = omega (arith, others_less a b, fits a b)

    pub fit_with_own : (a b : ℕ) → a ≤ w.r k → w.d k ≤ b → work (others w k) a b + w.p k ≤ b - a
    fit_with_own a b from due =
        omega (arith, own_split a b, fits a b, between_is a b (w.r k) (w.d k) (w.p k) from due)

-- windows with room, where entry k is in [s, e) instead
module _ (w : Windows) (k s e : ℕ) (place : k < w.n) (formed : Formed (with_window w k s e)) where
  law : PlanLaw (with_window w k s e)
  law = plan_law (with_window w k s e) (formed_roomy (with_window w k s e) formed) formed.few

  -- a plan for them leaves room for k in every interval that holds [s, e)
  pub plan_clears : Plannable (with_window w k s e) → (a b : ℕ) → a ≤ s → e ≤ b → work (others w k) a b + w.p k ≤ b - a
  plan_clears plan a b from due =
      omega (
        arith,
        law.fits.0 plan a b,
        work_split w k s e a b place,
        between_is a b s e (w.p k) from due,
      )

  -- and if there is such room, and the others fit, there is a plan
  pub clear_plan : Fits (others w k) → ((a b : ℕ) → a ≤ s → e ≤ b → work (others w k) a b + w.p k ≤ b - a)
      → Plannable (with_window w k s e)
  clear_plan fits clear = law.fits.1 all
    where
      all : Fits (with_window w k s e)
      all a b =
          let bound =
          between_le a b s e (w.p k) ((b - a) - work (others w k) a b) (λ l u. omega (arith, clear a b l u, fits a b)) in
          omega (arith, work_split w k s e a b place, fits a b, bound)
