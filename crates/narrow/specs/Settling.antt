-- Settled windows, the widest of them, unbroken plans and the minutes cut.
use Rattle.std.specs.Prelude.{ℕ, ◌+◌, ◌-◌, ◌<◌, ◌≡◌, Bool, true}
use Rattle.base.specs.Counting.{sum}
use Rattle.windows.specs.Windows.{Windows, Inside, with_windows}
use Rattle.windows.specs.Plans.{Plan, Plannable, Consecutive}

-- "It is settled if a plan has every entry in its window, and if each whole entry has such a plan with its minutes consecutive from its
-- r on, and one with them consecutive up to its d."
pub record Settled (whole : ℕ → Bool) (w : Windows) : Type 0 where
  pub plan : Plannable w
  pub from_r : (k : ℕ) → k < w.n → whole k ≡ true → (m : ℕ → ℕ) × Plan w m × Consecutive w.h m k (w.r k) (w.r k + w.p k)
  pub up_to_d : (k : ℕ) → k < w.n → whole k ≡ true → (m : ℕ → ℕ) × Plan w m × Consecutive w.h m k (w.d k - w.p k) (w.d k)

-- "A set of windows has one for each entry": for the entries of w, whatever numbers r and d. This one is settled and lies inside w.
pub record SettledInside (whole : ℕ → Bool) (w : Windows) (r d : ℕ → ℕ) : Type 0 where
  pub inside : Inside (with_windows w r d) w
  pub settled : Settled whole (with_windows w r d)

-- no set of windows is settled and lies inside w
abbrev pub NoneSettled : (ℕ → Bool) → Windows → Type 0
NoneSettled whole w = (r d : ℕ → ℕ) → SettledInside whole w r d → ⊥

-- v is the widest settled set of windows inside w: every other one lies inside it
pub record Widest (whole : ℕ → Bool) (w v : Windows) : Type 0 where
  pub entries : v ≡ with_windows w v.r v.d
  pub inside : Inside v w
  pub settled : Settled whole v
  pub widest : (r d : ℕ → ℕ) → SettledInside whole w r d → Inside (with_windows w r d) v

-- a plan that keeps every whole entry in one piece
abbrev pub Unbroken : (ℕ → Bool) → Windows → (ℕ → ℕ) → Type 0
Unbroken whole w m = (k : ℕ) → k < w.n → whole k ≡ true → (s : ℕ) × Consecutive w.h m k s (s + w.p k)

-- "The minutes cut are the sum, over all entries, of answered r minus given r and given d minus answered d."
abbrev pub minutes_cut : Windows → Windows → ℕ
minutes_cut w v = sum w.n (λ i. (v.r i - w.r i) + (w.d i - v.d i))
