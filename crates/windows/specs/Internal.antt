-- What private functions promise each other. No public promise cites these.
use Rattle.std.specs.Prelude.{ℕ, ◌+◌, ◌-◌, ◌≤◌, ◌≡◌, true, cond, Some, None, List, leb, ltb, get_or}
use Rattle.base.specs.Counting.{sum}
use Rattle.windows.specs.Windows.{Windows}
use Rattle.windows.specs.Intervals.{work, left_end}
use Rattle.windows.specs.RunningSums.{AtLeftEnd, anew, Reaches, additions_for, right_of_first, additions_at, FewAdditions}
use Rattle.windows.specs.declared.running_sum.RunningSum.{RunningSum}
use Rattle.windows.specs.declared.interval.Interval.{Interval}
use Rattle.windows.specs.declared.interval.ShownInterval.{ShownInterval}

-- one place more is passed, with this d and p: its box enters if d is at most b. That p has 16 bits, an array does not tell the caller.
pub record Passes (b d p : ℕ) (s s' : RunningSum) : Type 0 where
  pub a : s'.a ≡ s.a
  pub passed : s'.passed ≡ s.passed + 1
  pub kept : s'.kept ≡ s.kept + cond (leb d b) p 0
  pub additions : s'.additions ≡ s.additions + cond (leb d b) 1 0
  pub earlier : s'.earlier ≡ s.earlier
  pub small : p ≤ 65535

-- the interval that ends at b and begins at the largest left end of an overloaded one, and its work
abbrev pub interval_at : Windows → ℕ → Interval
interval_at w b = let a = w.r (left_end w b) in record { a = a; b = b; work = work w a b }

-- what the walk for the right end b shows, after the sum s of the right end before: the overloaded interval that ends at b with the largest
-- left end, if there is one, and the sum that the walk comes to: at its left end, or else at the last one reached, 0 if there is no place
pub record FindsLeft (w : Windows) (o : ℕ → ℕ) (b : ℕ) (s : RunningSum) (x : ShownInterval) : Type 0 where
  pub overloaded_is : x.overloaded ≡ cond (ltb (left_end w b) w.n) (Some (interval_at w b)) None
  pub at : ltb (left_end w b) w.n ≡ true → x.sum.a ≡ w.r (left_end w b)
  pub walk : Reaches w o b (anew s) x.sum
  pub reached : AtLeftEnd w b x.sum
  pub additions_are : x.sum.additions ≡ additions_for w b
  pub earlier : x.sum.earlier ≡ s.earlier + s.additions

-- what the right ends of the first i places show: the overloaded interval with the smallest of them, and with it the largest left end, if
-- there is one
pub record FindsRight (w : Windows) (i : ℕ) (x : ShownInterval) : Type 0 where
  pub overloaded_is :
      x.overloaded ≡ cond (ltb (right_of_first w i) w.n) (Some (interval_at w (w.d (right_of_first w i)))) None
  pub additions_are : x.sum.earlier + x.sum.additions ≡ sum i (additions_at w)
  pub bounded : FewAdditions w.n i x.sum

-- one side of the mirrored windows: of the first count entries h minus the other side, of the rest the side as it is
abbrev pub MirroredSide : ℕ → ℕ → List ℕ → List ℕ → List ℕ → Type 0
MirroredSide h count side other xs = (i : ℕ) → get_or xs i 0 ≡ cond (ltb i count) (h - get_or other i 0) (get_or side i 0)
