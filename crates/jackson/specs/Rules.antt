-- Rules of earliest deadline first, whatever they do with ties: `RuleLaw` of Laws.antt is over these. Minutes.antt has Jackson's own.
use Rattle.std.specs.Prelude.{ℕ, suc, ◌-◌, ◌<◌, ◌≤◌, ◌≡◌}
use Rattle.base.specs.Counting.{same}
use Rattle.windows.specs.Windows.{Windows, with_left}

-- the entry at place i has its r reached at minute t, and has minutes left
pub record Ready (w : Windows) (t i : ℕ) : Type 0 where
  pub place : i < w.n
  pub released : w.r i ≤ t
  pub unfinished : 1 ≤ w.p i

-- "at each minute, among entries with r reached and minutes left, take the smallest d"; none is taken only if there is none.
-- w.p is the minutes left.
pub record EarliestDeadlineFirst (w : Windows) (t k : ℕ) : Type 0 where
  pub taken : k < w.n → Ready w t k
  pub least : (i : ℕ) → k < w.n → Ready w t i → w.d k ≤ w.d i
  pub none : (i : ℕ) → w.n ≤ k → Ready w t i → ⊥

-- A rule followed from minute t₀, when w.p is left, to the day's end: m t is the place that has minute t (none before t₀), left t i the
-- minutes that the entry at place i has left at minute t.
pub record Follows (w : Windows) (t₀ : ℕ) (m : ℕ → ℕ) (left : ℕ → ℕ → ℕ) : Type 0 where
  pub before : (t : ℕ) → t < t₀ → w.n ≤ m t
  pub start : (i : ℕ) → i < w.n → left t₀ i ≡ w.p i
  pub next : (t i : ℕ) → t₀ ≤ t → t < w.h → i < w.n → left (suc t) i ≡ left t i - same (m t) i
  pub takes : (t : ℕ) → t₀ ≤ t → t < w.h → EarliestDeadlineFirst (with_left w (left t)) t (m t)
