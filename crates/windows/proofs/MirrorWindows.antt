-- The mirror of windows: plans exist in both, room is kept, and windows with one value changed.
-- Assumes nothing.
use mathlib.Core.Path.{◌≡◌, refl, sym, ap, ◌∙◌, fun_ext}
use mathlib.Core.Bool.{cond}
use Prim.Native.Nat.{ℕ, ◌-◌, ◌<◌, ◌≤◌}
use native.Mathlib.Omega.{arith}
use borrow.Author.Tests.{lt-ltb}
use lib.Dec.{ltb}
use Rattle.windows.specs.Windows.{Windows, with_windows, put, with_r, with_d, with_window, fixed_at, fixed_up_to, Formed}
use Rattle.windows.specs.Plans.{Plannable}
use Rattle.windows.specs.Mirrors.{mirror, mirror_plan}
use Rattle.windows.proofs.PlanFacts.{mirror_plan_lem, mirror_mirror}
use Rattle.windows.proofs.Puts.{place_cases, with_r_lem, with_d_lem}

-- where a plan exists, its mirror is one in the mirrored windows
pub plannable_mirror : (w : Windows) → Plannable w → Plannable (mirror w)
plannable_mirror w plan = (mirror_plan w.h plan.0, mirror_plan_lem w plan.0 plan.1)

-- one column of the windows fixed in the mirror, of f below n and g from there on
column : (h n k a b c : ℕ) (f g : ℕ → ℕ) → k < n → a ≡ h - b
    → (i : ℕ) → put k a (λ x. cond (ltb x n) (h - f x) (g x)) i ≡ cond (ltb i n) (h - put k b f i) (put k c g i)
column h n k a b c f g place e i =
    place_cases (λ t. cond t a (cond (ltb i n) (h - f i) (g i)) ≡ cond (ltb i n) (h - cond t b (f i)) (cond t c (g i))) i k
    (λ q. let z : i < n = omega arith in rw (lt-ltb i n z) e)
    (λ _. refl)

module _ (w : Windows) (formed : Formed w) where
  -- windows with room have it in the mirror
  pub formed_mirror : Formed (mirror w)
  formed_mirror =
      record {
        few = formed.few;
        minutes = formed.minutes;
        in_day = λ i place. rw (lt-ltb i w.n place) (omega arith);
        room = λ i place. rw (lt-ltb i w.n place) (omega (arith, formed.in_day i place, formed.room i place));
      }

  -- and are the mirror of their mirror
  pub mirror_back : mirror (mirror w) ≡ w
  mirror_back = mirror_mirror w (λ i place. omega (arith, formed.in_day i place, formed.room i place)) formed.in_day

  -- so a plan exists if one does in the mirror
  pub mirror_plannable : Plannable (mirror w) → Plannable w
  mirror_plannable plan = rw mirror_back at (plannable_mirror (mirror w) plan)

module _ (w : Windows) (k : ℕ) (place : k < w.n) where
  -- the mirrored window of k
  pub mirror_r : (mirror w).r k ≡ w.h - w.d k
  mirror_r = rw (lt-ltb k w.n place)

  pub mirror_d : (mirror w).d k ≡ w.h - w.r k
  mirror_d = rw (lt-ltb k w.n place)

  -- with k's window [s, e), in the mirror [a, b)
  put_mirror : (s e a b : ℕ) → a ≡ w.h - e → b ≡ w.h - s
      → with_window (mirror w) k a b ≡ mirror (with_window w k s e)
  put_mirror s e a b from due =
      λ j.
      with_windows w
      (fun_ext (column w.h w.n k a e s w.d w.r place from) j)
      (fun_ext (column w.h w.n k b s e w.r w.d place due) j)

  -- k up to e, in the mirror from h - e on
  pub fixed_at_mirror : (e : ℕ) → w.p k ≤ e → e ≤ w.h → fixed_at (mirror w) k (w.h - e) ≡ mirror (fixed_up_to w k e)
  fixed_at_mirror e long in_day = put_mirror (e - w.p k) e _ _ refl (omega arith)

  -- another r of k, in the mirror another d
  pub with_r_mirror : (s : ℕ) → with_d (mirror w) k (w.h - s) ≡ mirror (with_r w k s)
  with_r_mirror s =
      sym (with_d_lem (mirror w) k (w.h - s)) ∙ put_mirror s (w.d k) _ _ mirror_r refl ∙ ap mirror (with_r_lem w k s)

  -- and another d of the mirror is another r of k
  pub with_d_mirror : (e : ℕ) → e ≤ w.h → mirror (with_r w k (w.h - e)) ≡ with_d (mirror w) k e
  with_d_mirror e in_day =
      let back : w.h - (w.h - e) ≡ e = omega arith in
      sym (with_r_mirror (w.h - e)) ∙ ap (with_d (mirror w) k) back
