-- "per maximal run of one entry in the plan its first minute, its end, the place": m t is the place that has minute t of h, or idle.
use Rattle.std.specs.Prelude.{ℕ, ◌+◌, ◌-◌, ◌<◌, ◌≤◌, ◌≡◌, ◌↔◌, Bool, true, not, ◌&&◌, ◌||◌, eqb}
use Rattle.base.specs.Counting.{first_below}
use Rattle.windows.specs.Plans.{idle}

-- a run begins at minute t: an entry has it that did not have the minute before
abbrev pub begins_run : (ℕ → ℕ) → ℕ → Bool
begins_run m t = not (eqb (m t) idle) && (eqb t 0 || not (eqb (m (t - 1)) (m t)))

-- the end of the run that begins at minute t: the first minute from t on that its entry does not have, or h
unfoldable pub run_end : ℕ → (ℕ → ℕ) → ℕ → ℕ
run_end h m t = t + first_below (h - t) (λ j. not (eqb (m (t + j)) (m t)))

-- the same, most plainly: place k has the minutes from s to e, and neither the one before nor the one after
pub record Run (h : ℕ) (m : ℕ → ℕ) (s e k : ℕ) : Type 0 where
  pub entry : k ≡ idle → ⊥
  pub some : s < e
  pub within : e ≤ h
  pub minutes : (t : ℕ) → s ≤ t → t < e → m t ≡ k
  pub first : (t : ℕ) → t + 1 ≡ s → m t ≡ k → ⊥
  pub last : e < h → m e ≡ k → ⊥

-- the runs are those that begin at a minute of the day, each with its end: `runs_are` of proofs/RunFacts.antt
abbrev pub RunsAre : ℕ → (ℕ → ℕ) → Type 0
RunsAre h m = (s e k : ℕ) → Run h m s e k ↔ ((s < h) × (begins_run m s ≡ true) × (e ≡ run_end h m s) × (k ≡ m s))
