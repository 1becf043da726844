-- "stepping from one arrival or finish to the next" (request 7): the place that has a minute keeps it up to the next arrival, its finish or
-- the day's end, whichever is first. These minutes are a stretch. An arrival is an r that is reached, at a finish no minutes are left.
use Rattle.std.specs.Prelude.{ℕ, zero, suc, ◌+◌, ◌*◌, ◌-◌, ◌<◌, ◌≤◌, min, ◌≡◌, cond, List, [], ◌++◌, ltb}
use Rattle.base.specs.Counting.{list_of}
use Rattle.windows.specs.Windows.{Windows}
use Rattle.jackson.specs.Minutes.{State, state_in, day_start, chosen, minute_of, later, place_at, schedule}
use Rattle.jackson.specs.declared.types.Day.{Day}
use Rattle.jackson.specs.declared.types.Stretch.{Stretch}

-- the first of x and b; an x of at most t does not count
abbrev pub sooner : ℕ → ℕ → ℕ → ℕ
sooner t x b = cond (ltb t x) (min x b) b

-- the first of b and those of n values of r that come after t
unfoldable pub next_release : ℕ → (ℕ → ℕ) → ℕ → ℕ → ℕ
next_release zero r t b = b
next_release (suc n) r t b = sooner t (r n) (next_release n r t b)

-- the first of the finish of place k, if it has all minutes from t on, and the day's end; idle has no finish
abbrev pub finish : Windows → ℕ → ℕ → ℕ
finish w t k = cond (ltb k w.n) (min (t + w.p k) w.h) w.h

-- the first of the next r after t, the finish of place k, and the day's end
unfoldable pub stretch_end : Windows → ℕ → ℕ → ℕ
stretch_end w t k = next_release w.n w.r t (finish w t k)

-- how many minutes the stretch has that begins in a state: those up to its end; none in a day past its end
unfoldable pub stretch_of : State → ℕ
stretch_of s = cond (ltb s.t s.windows.h) (stretch_end s.windows s.t (chosen s) - s.t) 0

-- the state after it, minute by minute
abbrev pub after_stretch : State → State
after_stretch s = later (stretch_of s) s

-- what a stretch gives: the place that has the minute, how many minutes the stretch has, each of which is this place's, together with the
-- day after them. A day past its end gives idle and no minutes, and stays as it is.
pub record Stretches (day : Day) (x : Stretch) : Type 0 where
  pub place : x.place ≡ (minute_of (state_in day)).place
  pub minutes : x.minutes ≡ stretch_of (state_in day)
  pub places : (j : ℕ) → j < x.minutes → place_at (state_in day) j ≡ x.place
  pub next : state_in x.day ≡ after_stretch (state_in day)
  pub n : x.day.windows.n ≡ day.windows.n

-- the state k stretches later
unfoldable pub after_stretches : ℕ → State → State
after_stretches zero s = s
after_stretches (suc k) s = after_stretch (after_stretches k s)

-- the bytes of k stretches, one after the other: each place as often as its stretch has minutes
unfoldable pub stretch_bytes : ℕ → State → List ℕ
stretch_bytes zero s = []
stretch_bytes (suc k) s = let z = after_stretches k s in stretch_bytes k s ++ list_of (stretch_of z) (λ _. (minute_of z).place)

-- the law of stretches, for at most 255 entries
pub record StretchLaw : Type 0 where
  -- from whatever state, a day's first among them, n entries make at most 2n + 1 stretches up to the day's end
  pub few : (s : State) → s.windows.n ≤ 255 → s.windows.h ≤ (after_stretches (2 * s.windows.n + 1) s).t
  -- and those of a day are its schedule, byte for byte
  pub bytes : (w : Windows) → w.n ≤ 255 → stretch_bytes (2 * w.n + 1) (day_start w) ≡ schedule w
