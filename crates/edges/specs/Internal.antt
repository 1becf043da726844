-- What private functions promise each other. No public promise cites these.
use Rattle.std.specs.Prelude.{ℕ, suc, ◌+◌, ◌-◌, ◌*◌, ◌<◌, ◌≤◌, max, ◌≡◌, cond, ◌&&◌, List, leb, ltb, length}
use Rattle.base.specs.Counting.{sum}
use Rattle.list.specs.DayLists.{most_entries}
use Rattle.order.specs.Orders.{value_at}
use Rattle.windows.specs.Windows.{Windows}
use Rattle.windows.specs.RunningSums.{entered}
use Rattle.edges.specs.Starts.{jumped}
use Rattle.edges.specs.Ends.{largest}
use Rattle.edges.specs.declared.starts.StartSoFar.{StartSoFar}

-- a box with this r and these minutes enters the walk for the right end b, in the search for an entry that needs p. That the minutes have
-- 16 bits, an array does not tell the caller.
pub record Enters (b p r minutes : ℕ) (old new : StartSoFar) : Type 0 where
  pub work : new.work ≡ old.work + minutes
  pub start : new.start ≡ jumped b p r new.work old.start
  pub small : minutes ≤ 65535

-- Least ends in closed form.

-- what an entry adds to the work for the right end b. That p has 16 bits, an array does not tell the caller.
pub record MinutesBy (b d p x : ℕ) : Type 0 where
  pub is : x ≡ cond (leb d b) p 0
  pub small : x ≤ 65535

-- the minutes of the first n entries that have a d of at most b
pub record DueBy (w : Windows) (n b x : ℕ) : Type 0 where
  pub is : x ≡ sum n (λ i. cond (leb (w.d i) b) (w.p i) 0)
  pub small : x ≤ 65535 * n

-- when the work kept at position y of the order, which begins at its r, is done at the earliest
abbrev pub work_end : Windows → (ℕ → ℕ) → ℕ → ℕ → ℕ
work_end w o b y = w.r (o y) + entered w o b w.p (suc y)

-- the latest of these from position x on
unfoldable pub latest_end : Windows → (ℕ → ℕ) → ℕ → ℕ → ℕ
latest_end w o b x = largest 0 (w.n - x) (λ y. work_end w o b (w.n - suc y))

-- what the right end b asks of an entry, where the latest work before it is done at this minute
abbrev pub asked_after : ℕ → ℕ → ℕ → ℕ → ℕ
asked_after b latest d p = cond (ltb b d && ltb b (latest + p)) (latest + p) 0

-- what it asks of the entry at position x
abbrev pub asked_at : Windows → (ℕ → ℕ) → ℕ → ℕ → ℕ
asked_at w o b x = asked_after b (latest_end w o b x) (w.d (o x)) (w.p (o x))

-- the end of the entry at position x that the right ends of the first j places ask
abbrev pub end_at : Windows → (ℕ → ℕ) → ℕ → ℕ → ℕ
end_at w o j x = largest (w.r (o x) + w.p (o x)) j (λ i. asked_at w o (w.d i) x)

-- the ends by position that the right ends of the first j places ask
pub record EndsBy (w : Windows) (o : ℕ → ℕ) (j : ℕ) (xs : List ℕ) : Type 0 where
  pub long : length xs ≡ most_entries
  pub each : (x : ℕ) → x < w.n → value_at xs x ≡ end_at w o j x

-- ends by position, raised to what the right end b asks
pub record Raises (w : Windows) (o : ℕ → ℕ) (b : ℕ) (old new : List ℕ) : Type 0 where
  pub long : length new ≡ most_entries
  pub each : (x : ℕ) → x < w.n → value_at new x ≡ max (value_at old x) (asked_at w o b x)

-- r + p of the entries at the first m positions
pub record FirstEnds (w : Windows) (o : ℕ → ℕ) (m : ℕ) (xs : List ℕ) : Type 0 where
  pub long : length xs ≡ most_entries
  pub each : (x : ℕ) → x < m → value_at xs x ≡ w.r (o x) + w.p (o x)

-- the numbers of the first m positions, each at its place; 0 from n on
pub record AtPlaces (n : ℕ) (o : ℕ → ℕ) (xs : List ℕ) (m : ℕ) (ys : List ℕ) : Type 0 where
  pub long : length ys ≡ most_entries
  pub each : (x : ℕ) → x < m → value_at ys (o x) ≡ value_at xs x
  pub rest : (i : ℕ) → n ≤ i → i < most_entries → value_at ys i ≡ 0
