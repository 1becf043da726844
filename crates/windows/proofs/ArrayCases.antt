-- Arrays of windows as code changes them, and the functions of the place that they stand for.
-- Assumes nothing.
use mathlib.Core.Path.{◌≡◌, refl, fun_ext}
use mathlib.Core.List.{List}
use Prim.Native.Nat.{ℕ, ◌<◌, min}
use borrow.Author.Tests.{eq-eqb, ne_eqb}
use lib.ListN.{length, get_or, set}
use lib.Seq.{get_or-set_same, get_or-set_other}
use Rattle.windows.specs.Windows.{with_windows, columns, windows_in, put, with_r, with_d}
use Rattle.windows.specs.declared.types.WindowSet.{WindowSet}
use Rattle.base.proofs.Sums.{same_cases}

-- an array in which one number was stored
pub set_put : (xs : List ℕ) (k x : ℕ) → k < length xs → (i : ℕ) → get_or (set xs k x) i 0 ≡ put k x (λ j. get_or xs j 0) i
set_put xs k x h i =
    same_cases i k
    (λ e _. rw (eq-eqb i k e) (rw e (get_or-set_same xs k x 0 h)))
    (λ z _. rw (ne_eqb i k z) (get_or-set_other xs k i x 0 z))

module _ (s : WindowSet) where
  -- arrays that hold other windows of the same entries
  pub held : (r d : List ℕ) (f g : ℕ → ℕ) → ((i : ℕ) → get_or r i 0 ≡ f i) → ((i : ℕ) → get_or d i 0 ≡ g i)
      → columns s.h (min s.n 64) r d s.p ≡ with_windows (windows_in s) f g
  held r d f g a b =
      λ j.
      record {
        h = s.h;
        n = min s.n 64;
        r = fun_ext {f = λ i. get_or r i 0} {g = f} a j;
        d = fun_ext {f = λ i. get_or d i 0} {g = g} b j;
        p = λ i. get_or s.p i 0;
      }

  module _ (k x : ℕ) where
    pub held_r : k < length s.r → columns s.h (min s.n 64) (set s.r k x) s.d s.p ≡ with_r (windows_in s) k x
    held_r h = held (set s.r k x) s.d _ _ (set_put s.r k x h) (λ i. refl)

    pub held_d : k < length s.d → columns s.h (min s.n 64) s.r (set s.d k x) s.p ≡ with_d (windows_in s) k x
    held_d h = held s.r (set s.d k x) _ _ (λ i. refl) (set_put s.d k x h)
