-- The running sum: for one right end b, the work of the intervals that end at b, while the left end walks down.
use Rattle.std.specs.Prelude.{ℕ, ◌+◌, ◌*◌, ◌<◌, ◌≤◌, ◌≡◌, cond, ◌&&◌, leb, ltb}
use Rattle.base.specs.Counting.{sum, best, smaller}
use Rattle.order.specs.Orders.{LargestFirst}
use Rattle.windows.specs.Windows.{Windows, with_left}
use Rattle.windows.specs.Intervals.{work, left_end, right_of}
use Rattle.windows.specs.declared.running_sum.RunningSum.{RunningSum}

-- how many boxes are in [a, b): its work, if each needed one minute
abbrev pub boxes : Windows → ℕ → ℕ → ℕ
boxes w a b = work (with_left w (λ _. 1)) a b

-- "at each left end reached the sum kept is that interval's work, and .. the additions made for this right end, counted along, are as many
-- as the boxes in it"
pub record AtLeftEnd (w : Windows) (b : ℕ) (s : RunningSum) : Type 0 where
  pub kept_is : s.kept ≡ work w s.a b
  pub additions_are : s.additions ≡ boxes w s.a b

-- the places in the order in which a left end that walks down meets them
abbrev pub LatestReleaseFirst : Windows → (ℕ → ℕ) → Type 0
LatestReleaseFirst w o = LargestFirst w.n w.r o

-- "add the boxes that enter": what those of the first x places of the order add that have a d of at most b, where each adds its f
abbrev pub entered : Windows → (ℕ → ℕ) → ℕ → (ℕ → ℕ) → ℕ → ℕ
entered w o b f x = sum x (λ y. cond (leb (w.d (o y)) b) (f (o y)) 0)

-- "keep the sum so far and add the boxes that enter": from s to s', whatever s has, only what the places between them add is added
pub record Adds (w : Windows) (o : ℕ → ℕ) (b : ℕ) (s s' : RunningSum) : Type 0 where
  pub kept : s'.kept + entered w o b w.p s.passed ≡ s.kept + entered w o b w.p s'.passed
  pub additions : s'.additions + entered w o b (λ _. 1) s.passed ≡ s.additions + entered w o b (λ _. 1) s'.passed
  pub earlier : s'.earlier ≡ s.earlier

-- "while the left end walks down for a fixed right end": from s to s' it comes to the r of the next place of the order. All places with
-- this r are passed, and those left have a smaller r. A p has 16 bits, so the sum fits 32.
pub record WalksDown (w : Windows) (o : ℕ → ℕ) (b : ℕ) (s s' : RunningSum) : Type 0 where
  pub adds : Adds w o b s s'
  pub small : s'.kept ≤ 65535 * s'.passed
  pub a_is : s'.a ≡ w.r (o s.passed)
  pub further : s.passed < s'.passed
  pub within : s'.passed ≤ w.n
  pub same_r : (x : ℕ) → s.passed ≤ x → x < s'.passed → w.r (o x) ≡ s'.a
  pub smaller_r : (x : ℕ) → s'.passed ≤ x → x < w.n → w.r (o x) < s'.a

-- the sum started anew for the next right end: the additions made are earlier ones now
abbrev pub anew : RunningSum → RunningSum
anew s = record { a = 0; passed = 0; kept = 0; additions = 0; earlier = s.earlier + s.additions }

-- the walk for b, from the sum s on, comes to the sum t, left end by left end
pub data Reaches (w : Windows) (o : ℕ → ℕ) (b : ℕ) (s : RunningSum) : RunningSum → Type 0 where
  at_start : Reaches w o b s s
  next_end : {t u : RunningSum} → Reaches w o b s t → WalksDown w o b t u → Reaches w o b s u

-- the request's sentence, of each left end that the walk for b reaches from a sum started anew, in this order of the places
abbrev pub SumLaw : Type 0
SumLaw =
    (w : Windows) (o : ℕ → ℕ) → LatestReleaseFirst w o → (b : ℕ) (s t : RunningSum) → Reaches w o b (anew s) t → 1 ≤ t.passed
    → AtLeftEnd w b t

-- the additions of the whole walk for b, which ends at the first overloaded left end, the largest, or has passed all places: as many as the
-- boxes in that interval, or as all boxes with a d of at most b
abbrev pub additions_for : Windows → ℕ → ℕ
additions_for w b = cond (ltb (left_end w b) w.n) (boxes w (w.r (left_end w b)) b) (boxes w 0 b)

-- of the first i places the one with the smallest right end of an overloaded interval; n if there is none
abbrev pub right_of_first : Windows → ℕ → ℕ
right_of_first w i = best w.n i (right_of w) (smaller w.d)

-- the additions for the right end of place i: no walk is made if a right end is shown that is no larger
abbrev pub additions_at : Windows → ℕ → ℕ
additions_at w i =
    let k = right_of_first w i in
    cond (ltb k w.n && leb (w.d k) (w.d i)) 0 (additions_for w (w.d i))

-- the additions made for i right ends of n boxes are no more than n for each
abbrev pub FewAdditions : ℕ → ℕ → RunningSum → Type 0
FewAdditions n i s = s.earlier + s.additions ≤ i * n
