-- Plans.
use Rattle.std.specs.Prelude.{ℕ, ◌-◌, ◌<◌, ◌≤◌, ◌≡◌, ◌⊎◌, List, length, get_or, eqb}
use Rattle.base.specs.Counting.{sum, same, first_below, last_below}
use Rattle.windows.specs.Windows.{Windows}

-- how many of the minutes below h m gives to place i
abbrev pub minutes_of : ℕ → (ℕ → ℕ) → ℕ → ℕ
minutes_of h m i = sum h (λ t. same (m t) i)

-- "A plan gives each minute 0 to H-1 to one entry or none; entry i has exactly p minutes, all in [r, d)."
-- m t is the place that has minute t; a number that is no place is none. "A plan may break a whole entry.": kinds are no part of the
-- windows, and an entry's minutes need not be consecutive.
pub record Plan (w : Windows) (m : ℕ → ℕ) : Type 0 where
  pub exact : (i : ℕ) → i < w.n → minutes_of w.h m i ≡ w.p i
  pub inside : (i t : ℕ) → i < w.n → t < w.h → m t ≡ i → (w.r i ≤ t) × (t < w.d i)

-- there is a plan
abbrev pub Plannable : Windows → Type 0
Plannable w = (m : ℕ → ℕ) × Plan w m

-- The searches that find an entry's end and its start: of one without minutes the end is 0 and the start h.
abbrev pub end_of : ℕ → (ℕ → ℕ) → ℕ → ℕ
end_of h m i = last_below h (λ t. eqb (m t) i)

abbrev pub start_of : ℕ → (ℕ → ℕ) → ℕ → ℕ
start_of h m i = first_below h (λ t. eqb (m t) i)

-- What they find, most plainly: "Its end is its last minute plus 1, its start its first minute."
-- e is the last minute below h that m gives to place i, plus 1
pub record IsEnd (h : ℕ) (m : ℕ → ℕ) (i e : ℕ) : Type 0 where
  pub after_one : 1 ≤ e
  pub within : e ≤ h
  pub minute : m (e - 1) ≡ i
  pub none_after : (t : ℕ) → e ≤ t → t < h → m t ≡ i → ⊥

-- s is the first minute below h that m gives to place i
pub record IsStart (h : ℕ) (m : ℕ → ℕ) (i s : ℕ) : Type 0 where
  pub below : s < h
  pub minute : m s ≡ i
  pub none_before : (t : ℕ) → t < s → m t ≡ i → ⊥

-- m gives place k every minute of [s, e), and none besides, of a day of h minutes: consecutive minutes
pub record Consecutive (h : ℕ) (m : ℕ → ℕ) (k s e : ℕ) : Type 0 where
  pub each : (t : ℕ) → t < h → s ≤ t → t < e → m t ≡ k
  pub only : (t : ℕ) → t < h → m t ≡ k → (s ≤ t) × (t < e)

-- the byte of a minute that no entry has
abbrev pub idle : ℕ
idle = 255

-- the places that bytes give to the minutes
abbrev pub places_in : List ℕ → ℕ → ℕ
places_in bytes t = get_or bytes t idle

-- "A plan is H bytes: the place, or 255 for idle."
pub record PlanBytes (w : Windows) (bytes : List ℕ) : Type 0 where
  pub long : length bytes ≡ w.h
  pub places : (t : ℕ) → t < w.h → (places_in bytes t < w.n) ⊎ (places_in bytes t ≡ idle)
  pub plan : Plan w (places_in bytes)
