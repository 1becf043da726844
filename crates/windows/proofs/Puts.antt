-- Functions with another value at one place, and the windows made with them.
-- Assumes nothing.
use mathlib.Core.Path.{◌≡◌, refl, sym, ap, ◌∙◌, fun_ext}
use mathlib.Core.Bool.{Bool, true, false, cond}
use Prim.Native.Nat.{ℕ, ◌+◌, ◌-◌, ◌<◌, ◌≤◌}
use native.Mathlib.Omega.{arith}
use borrow.Author.Tests.{eqb-true, eqb-false, eq-eqb, ne_eqb}
use lib.Dec.{eqb}
use Rattle.windows.specs.Windows.{Windows, Inside, with_windows, put, with_r, with_d, with_window, fixed_at, fixed_up_to, Formed}
use Rattle.windows.specs.Plans.{Plan, Consecutive}
use Rattle.windows.proofs.PlanFacts.{other_windows, widen, filled}
use Rattle.windows.proofs.Room.{formed_inside}

-- a place is k or another; for what depends on several functions put at k
pub place_cases : (P : Bool → Type 0) (i k : ℕ) → (i ≡ k → P true) → ((i ≡ k → ⊥) → P false) → P (eqb i k)
place_cases P i k f g = go (eqb i k) refl
  where
    go : (t : Bool) → eqb i k ≡ t → P t
    go true e = f (eqb-true i k e)
    go false e = g (eqb-false i k e)

module _ (k x : ℕ) (f : ℕ → ℕ) where
  pub put_same : put k x f k ≡ x
  put_same = rw (eq-eqb k k refl)

  pub put_other : (i : ℕ) → (i ≡ k → ⊥) → put k x f i ≡ f i
  put_other i ne = rw (ne_eqb i k ne)

  -- what holds of x at k and of f elsewhere
  pub put_cases : (P : ℕ → Type 0) (i : ℕ) → (i ≡ k → P x) → ((i ≡ k → ⊥) → P (f i)) → P (put k x f i)
  put_cases P i = place_cases (λ t. P (cond t x (f i))) i k

  -- bounds of f, if x has them too
  pub put_under : (i y : ℕ) → (i ≡ k → x ≤ y) → f i ≤ y → put k x f i ≤ y
  put_under i y a b = put_cases (λ z. z ≤ y) i a (λ _. b)

  pub put_over : (i y : ℕ) → (i ≡ k → y ≤ x) → y ≤ f i → y ≤ put k x f i
  put_over i y a b = put_cases (λ z. y ≤ z) i a (λ _. b)

-- the value that f has there changes nothing
pub put_back : (k : ℕ) (f : ℕ → ℕ) → put k (f k) f ≡ f
put_back k f = fun_ext (λ i. put_cases k (f k) f (λ z. z ≡ f i) i (λ e. ap f (sym e)) (λ _. refl))

-- of two values put at one place the second counts
pub put_twice : (k x y : ℕ) (f : ℕ → ℕ) → put k x (put k y f) ≡ put k x f
put_twice k x y f = fun_ext (λ i. place_cases (λ t. cond t x (cond t y (f i)) ≡ cond t x (f i)) i k (λ _. refl) (λ _. refl))

-- The window [s, s + p) of entry k, and the others as they are; [e - p, e) is one of these.
pub fixed_up_to_lem : (w : Windows) (k e : ℕ) → w.p k ≤ e → fixed_up_to w k e ≡ fixed_at w k (e - w.p k)
fixed_up_to_lem w k e long =
    let z : e ≡ e - w.p k + w.p k = omega arith in
    ap (with_window w k (e - w.p k)) z

module _ (w : Windows) (formed : Formed w) (k s : ℕ) (place : k < w.n) (room : s + w.p k ≤ w.d k) where
  pub fixed_formed : Formed (fixed_at w k s)
  fixed_formed =
      record {
        few = formed.few;
        minutes = formed.minutes;
        in_day = λ i below. put_under k _ w.d i _ (λ _. omega (arith, formed.in_day k place)) (formed.in_day i below);
        room =
            λ i below.
            place_cases (λ t. cond t s (w.r i) + w.p i ≤ cond t (s + w.p k) (w.d i)) i k
            (λ e. omega (arith, ap w.p e))
            (λ _. formed.room i below);
      }

  -- a plan for them gives k all of its window
  pub fixed_consecutive : (m : ℕ → ℕ) → Plan (fixed_at w k s) m → Consecutive w.h m k s (s + w.p k)
  fixed_consecutive m plan =
      let a = put_same k s w.r in
      let b = put_same k (s + w.p k) w.d in
      record {
        each =
            λ t _ l u.
            filled (fixed_at w k s) m plan k place (omega (arith, a, b)) (omega (arith, b, formed.in_day k place)) t
            (omega (arith, a))
            (omega (arith, b));
        only = λ t below e. let z = plan.inside k t place below e in (omega (arith, a, z.0), omega (arith, b, z.1));
      }

-- with k's own d, or its own r, in the window put
pub with_r_lem : (w : Windows) (k s : ℕ) → with_window w k s (w.d k) ≡ with_r w k s
with_r_lem w k s = ap (with_windows w (put k s w.r)) (put_back k w.d)

pub with_d_lem : (w : Windows) (k e : ℕ) → with_window w k (w.r k) e ≡ with_d w k e
with_d_lem w k e = ap (λ (f : ℕ → ℕ). with_windows w f (put k e w.d)) (put_back k w.r)

-- k's own window changes nothing
pub own_window : (w : Windows) (k : ℕ) → with_window w k (w.r k) (w.d k) ≡ w
own_window w k =
    ap (λ (f : ℕ → ℕ). with_windows w f (put k (w.d k) w.d)) (put_back k w.r)
    ∙ ap (λ (f : ℕ → ℕ). with_windows w w.r f) (put_back k w.d)

-- a window put in the place of k's own does not ask what r and d that had
module _ (w : Windows) (k x s e : ℕ) where
  pub window_after_r : with_window (with_r w k x) k s e ≡ with_window w k s e
  window_after_r = ap (λ (f : ℕ → ℕ). with_windows w f (put k e w.d)) (put_twice k s x w.r)

pub up_to_formed : (w : Windows) → Formed w → (k e : ℕ) → k < w.n → w.p k ≤ e → e ≤ w.d k → Formed (fixed_up_to w k e)
up_to_formed w formed k e place long due = rw (fixed_up_to_lem w k e long) (fixed_formed w formed k (e - w.p k) place (omega arith))

-- they lie inside w, if [s, s + p) lies in the window of k
pub fixed_inside : (w : Windows) (k s : ℕ) → w.r k ≤ s → s + w.p k ≤ w.d k → Inside (fixed_at w k s) w
fixed_inside w k s from room =
    record {
      r = λ i _. put_over k s w.r i _ (λ e. omega (arith, ap w.r e)) (omega arith);
      d = λ i _. put_under k _ w.d i _ (λ e. omega (arith, ap w.d e)) (omega arith);
    }

-- a plan that gives k these minutes and no others is a plan for them
pub consecutive_fixed : (w : Windows) (m : ℕ → ℕ) (k s : ℕ) → Plan w m → Consecutive w.h m k s (s + w.p k) → Plan (fixed_at w k s) m
consecutive_fixed w m k s plan run =
    other_windows w _ _ m plan
    (λ i t place below e.
    place_cases (λ q. (cond q s (w.r i) ≤ t) × (t < cond q (s + w.p k) (w.d i))) i k
    (λ q. run.only t below (e ∙ q))
    (λ _. plan.inside i t place below e))

-- Another d of entry k.

-- its own changes nothing
pub own_deadline : (w : Windows) (k : ℕ) → with_d w k (w.d k) ≡ w
own_deadline w k = ap (with_windows w w.r) (put_back k w.d)

-- one lies inside a greater one
deadline_inside : (w : Windows) (k e x : ℕ) → e ≤ x → Inside (with_d w k e) (with_d w k x)
deadline_inside w k e x less =
    record {
      r = λ i _. omega arith;
      d = λ i _. place_cases (λ t. cond t e (w.d i) ≤ cond t x (w.d i)) i k (λ _. less) (λ _. omega arith);
    }

-- so a plan for it is one for the greater
pub deadline_widen : (w : Windows) (k e x : ℕ) → e ≤ x → (m : ℕ → ℕ) → Plan (with_d w k e) m → Plan (with_d w k x) m
deadline_widen w k e x less m = widen (with_d w k x) _ _ m (deadline_inside w k e x less)

module _ (w : Windows) (formed : Formed w) (k : ℕ) (place : k < w.n) where
  -- windows with room have it with another d that leaves room
  pub deadline_formed : (e : ℕ) → w.r k + w.p k ≤ e → e ≤ w.d k → Formed (with_d w k e)
  deadline_formed e room due =
      formed_inside w formed _ _ (rw (own_deadline w k) at (deadline_inside w k e (w.d k) due))
      (λ i below.
      place_cases (λ t. w.r i + w.p i ≤ cond t e (w.d i)) i k
      (λ q. omega (arith, ap w.r q, ap w.p q))
      (λ _. formed.room i below))
