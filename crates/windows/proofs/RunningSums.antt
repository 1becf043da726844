-- The walk of the left end for a fixed right end: the sum kept is the interval's work, and the first overloaded left end is the largest.
-- Assumes nothing.
use mathlib.Core.Path.{◌≡◌, refl, sym, ap, ◌∙◌}
use mathlib.Core.Bool.{cond}
use Prim.Native.Nat.{ℕ, ◌+◌, ◌*◌, ◌-◌, ◌≤◌, ◌<◌}
use native.Mathlib.Numerals.{add-one}
use native.Mathlib.Omega.{arith}
use borrow.Author.Tests.{le-leb, lt-leb}
use lib.Dec.{leb}
use mathlib.Core.List.{List}
use lib.ListN.{length, get_or, take, drop, length-take, length-drop}
use lib.Seq.{get_or-take, get_or-drop}
use Rattle.base.specs.Counting.{sum}
use Rattle.order.specs.Orders.{value_at}
use Rattle.base.proofs.Sums.{le_or_lt, same_cases, cond_most, sum_cong, sum_most, sum_rest, sum_more}
use Rattle.order.proofs.SomeOrder.{some_order}
use Rattle.base.proofs.Permutations.{once_in, once_sum}
use Rattle.windows.specs.Windows.{Windows, with_left}
use Rattle.windows.specs.Intervals.{work}
use Rattle.windows.specs.RunningSums.{LatestReleaseFirst, boxes, entered, AtLeftEnd, Adds, WalksDown, anew}
use Rattle.windows.specs.RunningSums.{Reaches, at_start, next_end, SumLaw}
use Rattle.windows.specs.Internal.{Passes}
use Rattle.windows.specs.declared.running_sum.RunningSum.{RunningSum}
use Rattle.windows.proofs.IntervalWork.{in_interval, in_interval_le}

-- an interval has no more boxes than the day
pub boxes_few : (w : Windows) (a b : ℕ) → boxes w a b ≤ w.n
unfolding work
boxes_few w a b = omega (arith, sum_most w.n 1 _ (λ i _. in_interval_le (with_left w (λ _. 1)) a b i 1 (λ _ _. omega arith)))

-- The sum kept and the additions made are those of the places of the order that are passed.
pub record SumSoFar (w : Windows) (o : ℕ → ℕ) (b : ℕ) (s : RunningSum) : Type 0 where
  pub within : s.passed ≤ w.n
  pub kept_is : s.kept ≡ entered w o b w.p s.passed
  pub additions_are : s.additions ≡ entered w o b (λ _. 1) s.passed
  pub small : s.kept ≤ 65535 * s.passed

-- Along the order the r falls.
module _ (w : Windows) (o : ℕ → ℕ) (order : LatestReleaseFirst w o) where
  pub falls : (x y : ℕ) → x ≤ y → y < w.n → w.r (o y) ≤ w.r (o x)
  falls x y l b = same_cases x y (λ e _. rw e (omega arith)) (λ ne _. (order.sorted x y (omega (arith, ne)) b).no_smaller)

  module _ (b a x : ℕ) (within : x ≤ w.n) (over : (y : ℕ) → y < x → a ≤ w.r (o y)) where
    -- where a is at most the r of the first x places, what enters is work of [a, b)
    pub entered_within : entered w o b w.p x ≤ work w a b
    unfolding work
    entered_within =
        let term = in_interval w a b in
        omega (
          arith,
          sum_cong x (λ y. cond (leb (w.d (o y)) b) (w.p (o y)) 0) (λ y. term (o y))
              (λ y l. rw (le-leb a (w.r (o y)) (over y l)) refl),
          sum_more w.n x (λ y. term (o y)) within,
          once_sum w.n o order.once term,
        )

    -- and all of it where a is above the r of the rest
    pub entered_all : ((y : ℕ) → x ≤ y → y < w.n → w.r (o y) < a) → (f : ℕ → ℕ) → entered w o b f x ≡ work (with_left w f) a b
    unfolding work
    entered_all under f =
        let term = in_interval (with_left w f) a b in
        sum_cong x _ _ (λ y l. rw (le-leb a (w.r (o y)) (over y l)) refl)
        ∙ (sum_rest w.n x (λ y. term (o y)) within (λ y l u. rw (lt-leb a (w.r (o y)) (under y l u)) refl)
        ∙ once_sum w.n o order.once term)

  -- at the left end reached, the boxes entered are those in [a, b)
  pub at_left_end : (b : ℕ) (s : RunningSum) → SumSoFar w o b s → ((y : ℕ) → y < s.passed → s.a ≤ w.r (o y))
      → ((y : ℕ) → s.passed ≤ y → y < w.n → w.r (o y) < s.a) → AtLeftEnd w b s
  at_left_end b s so over under =
      let all = entered_all b s.a s.passed so.within over under in
      record { kept_is = so.kept_is ∙ all w.p; additions_are = so.additions_are ∙ all (λ _. 1) }

module _ (w : Windows) (o : ℕ → ℕ) (b : ℕ) where
  -- no more additions than places passed
  pub additions_few : (s : RunningSum) → SumSoFar w o b s → s.additions ≤ s.passed
  additions_few s so =
      omega (
        arith,
        so.additions_are,
        sum_most s.passed 1 (λ y. cond (leb (w.d (o y)) b) 1 0)
            (λ y _. cond_most (leb (w.d (o y)) b) 1 0 1 (omega arith) (omega arith)),
      )

  -- the sum started anew
  pub sum_anew : (earlier : ℕ) → SumSoFar w o b (record { a = 0; passed = 0; kept = 0; additions = 0; earlier = earlier })
  unfolding sum
  sum_anew earlier = record { within = omega arith; kept_is = refl; additions_are = refl; small = omega arith }

  -- a step further
  pub sum_after : (s s' : RunningSum) → WalksDown w o b s s' → SumSoFar w o b s → SumSoFar w o b s'
  sum_after s s' down so =
      record {
        within = down.within;
        kept_is = omega (arith, down.adds.kept, so.kept_is);
        additions_are = omega (arith, down.adds.additions, so.additions_are);
        small = down.small;
      }

  -- it comes to a left end
  pub end_reached : LatestReleaseFirst w o → (s s' : RunningSum) → WalksDown w o b s s' → SumSoFar w o b s → AtLeftEnd w b s'
  end_reached order s s' down so = at_left_end w o order b s' (sum_after s s' down so) over down.smaller_r
    where
      over : (y : ℕ) → y < s'.passed → s'.a ≤ w.r (o y)
      over y l =
          le_or_lt s.passed y
          (λ h. omega (arith, down.same_r y h l))
          (λ h. omega (arith, down.a_is, falls w o order y s.passed (omega arith) (omega (arith, down.further, down.within))))

-- The places of the order from position x on, as a slice holds them.
pub record PlacesFrom (w : Windows) (o : ℕ → ℕ) (x : ℕ) (places : List ℕ) : Type 0 where
  pub are : (j : ℕ) → j < length places → get_or places j 0 ≡ o (x + j)
  pub below : (j : ℕ) → j < length places → get_or places j 0 < w.n
  pub all : x + length places ≡ w.n

pub places_from : (w : Windows) (order : List ℕ) → LatestReleaseFirst w (value_at order) → w.n ≤ length order → (x n : ℕ) → n ≡ w.n → x < n
    → PlacesFrom w (value_at order) x (take (n - x) (drop x order))
places_from w order releases fits x n e l = record { are = are; below = below; all = omega (arith, long, e) }
  where
    long : length (take (n - x) (drop x order)) ≡ n - x
    long = simp (length-take, length-drop) (omega (arith, fits, e))

    are : (j : ℕ) → j < length (take (n - x) (drop x order)) → get_or (take (n - x) (drop x order)) j 0 ≡ value_at order (x + j)
    are j h = get_or-take (n - x) (drop x order) j 0 (omega (arith, long)) ∙ get_or-drop x order j 0

    below : (j : ℕ) → j < length (take (n - x) (drop x order)) → get_or (take (n - x) (drop x order)) j 0 < w.n
    below j h = rw (are j h) (once_in w.n (value_at order) releases.once (x + j) (omega (arith, long, e)))

-- Inside one left end, from the sum s on: j places more are passed, and all places passed have an r of at least this one.
pub record Walking (w : Windows) (o : ℕ → ℕ) (b : ℕ) (s s' : RunningSum) (places : List ℕ) (j : ℕ) : Type 0 where
  pub from : PlacesFrom w o s.passed places
  pub passed_is : s'.passed ≡ s.passed + j
  pub adds : Adds w o b s s'
  pub within : s'.passed ≤ w.n
  pub small : s'.kept ≤ 65535 * s'.passed
  pub counted : s'.additions ≤ s'.passed
  pub a_is : s'.a ≡ w.r (o s.passed)
  pub over : (y : ℕ) → y < s'.passed → s'.a ≤ w.r (o y)

module _ (w : Windows) (o : ℕ → ℕ) (order : LatestReleaseFirst w o) (b : ℕ) (s : RunningSum) (more : s.passed < w.n) where
  -- the sum s at the next left end
  abbrev starts : RunningSum
  starts = record s { a = w.r (o s.passed) }

  module _ (places : List ℕ) where
    pub walking_start : PlacesFrom w o s.passed places → s.kept ≤ 65535 * s.passed → s.additions ≤ s.passed
        → Walking w o b starts starts places 0
    walking_start from small counted =
        record {
          from = from;
          passed_is = omega arith;
          adds = record { kept = refl; additions = refl; earlier = refl };
          within = omega (arith, more);
          small = small;
          counted = counted;
          a_is = refl;
          over = λ y l. falls w o order y s.passed (omega arith) more;
        }

    module _ (s' : RunningSum) (j : ℕ) (so : Walking w o b starts s' places j) where
      module _ (h : j < length places) where
        abbrev i : ℕ
        i = get_or places j 0

        is_next : i ≡ o s'.passed
        is_next = so.from.are j h ∙ sym (ap o so.passed_is)

        pub walking_next : (t : RunningSum) → w.r (o s.passed) ≤ w.r i → Passes b (w.d i) (w.p i) s' t
            → Walking w o b starts t places (j + 1)
        unfolding sum
        walking_next t high passes =
            record {
              from = so.from;
              passed_is = omega (arith, so.passed_is, passes.passed);
              adds = record {
                kept = rw (passes.passed, add-one, ← is_next) (omega (arith, so.adds.kept, passes.kept));
                additions = rw (passes.passed, add-one, ← is_next) (omega (arith, so.adds.additions, passes.additions));
                earlier = passes.earlier ∙ so.adds.earlier;
              };
              within = omega (arith, so.passed_is, passes.passed, so.from.all, h);
              small =
                  let one = cond_most (leb (w.d i) b) (w.p i) 0 65535 passes.small (omega arith) in
                  omega (arith, passes.passed, passes.kept, so.small, one);
              counted =
                  let one = cond_most (leb (w.d i) b) 1 0 1 (omega arith) (omega arith) in
                  omega (arith, passes.passed, passes.additions, so.counted, one);
              a_is = passes.a ∙ so.a_is;
              over =
                  λ y l.
                  rw passes.a
                  (same_cases y s'.passed
                  (λ e _. rw (so.a_is, e, ← is_next) high)
                  (λ ne _. so.over y (omega (arith, ne, passes.passed))));
            }

      -- it ends where the next r is smaller, or no place is left
      walked : s.passed < s'.passed → ((y : ℕ) → s'.passed ≤ y → y < w.n → w.r (o y) < s'.a) → WalksDown w o b s s'
      walked further under =
          record {
            adds = record { kept = so.adds.kept; additions = so.adds.additions; earlier = so.adds.earlier };
            small = so.small;
            a_is = so.a_is;
            further = further;
            within = so.within;
            same_r =
                λ x l u.
                omega (arith, so.over x u, so.a_is, falls w o order s.passed x l (omega (arith, so.within)));
            smaller_r = under;
          }

      pub walked_below : s'.passed < w.n → w.r (o s'.passed) < w.r (o s.passed) → WalksDown w o b s s'
      walked_below less low =
          walked
          (same_cases s.passed s'.passed
          (λ e _. absurd (omega (arith, low, ap (λ (z : ℕ). w.r (o z)) e)))
          (λ ne _. omega (arith, so.passed_is, ne)))
          (λ y l u. omega (arith, low, so.a_is, falls w o order s'.passed y l u))

      pub walked_all : w.n ≤ s'.passed → WalksDown w o b s s'
      walked_all end = walked (omega (arith, more)) (λ y l u. absurd (omega (arith, u)))

-- Along the whole walk the sum is that of the places passed, and at each left end reached the interval's.
module _ (w : Windows) (o : ℕ → ℕ) (order : LatestReleaseFirst w o) (b : ℕ) (s : RunningSum) where
  walk_law : {t : RunningSum} → Reaches w o b (anew s) t → SumSoFar w o b t × (1 ≤ t.passed → AtLeftEnd w b t)
  walk_law at_start = (sum_anew w o b _, λ l. absurd (omega (arith, l)))
  walk_law (next_end walk down) =
      let so = (walk_law walk).0 in
      (sum_after w o b _ _ down so, λ _. end_reached w o b order _ _ down so)

pub sum_law : SumLaw
sum_law w o order b s t walk = (walk_law w o order b s walk).1

-- whatever the windows are, their places have such an order
pub some_releases : (w : Windows) → (o : ℕ → ℕ) × LatestReleaseFirst w o
some_releases w = some_order w.n w.r
