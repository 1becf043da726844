-- Demand 3, "due whole, windows, refusals, lists of narrowing steps, moves, bounds and shown plans in one statement".
use Rattle.std.specs.Prelude.{ℕ, ◌<◌, ◌≤◌, ◌≡◌, Bool, List, []}
use Rattle.base.specs.Outcomes.{Code, Outcome, answered, refused}
use Rattle.windows.specs.Windows.{Windows}
use Rattle.windows.specs.Plans.{IsEnd, IsStart}
use Rattle.windows.specs.Intervals.{overload_of}
use Rattle.narrow.specs.Rounds.{Narrowed}
use Rattle.narrow.specs.Laws.{NarrowLaw}
use Rattle.bounds.specs.Ends.{Keeping}
use Rattle.bounds.specs.ShownPlans.{IsEarly, IsLate}

-- what a call that narrows tells of a list: its windows and moves, or a refusal, and of each place the least end, the greatest start,
-- the early plan and the late plan
pub record Told : Type 0 where
  pub outcome : Outcome Narrowed
  pub end : ℕ → ℕ
  pub start : ℕ → ℕ
  pub early : ℕ → List ℕ
  pub late : ℕ → List ℕ

-- a refusal has no bounds and plans beside it
abbrev pub told_refused : Code → Told
told_refused k = record { outcome = refused k; end = λ _. 0; start = λ _. 0; early = λ _. []; late = λ _. [] }

-- Demand 3 of the given windows w, where `whole` says which entries are whole, and of what a call tells.
pub record Demand3 (whole : ℕ → Bool) (w : Windows) (told : Told) : Type 0 where
  -- The windows answered are settled, inside those given and the widest; refused by 9 or 10, with what they carry, exactly when no settled
  -- set exists inside; what 9 shows; searches find what document 01 says of plans; the claims on lists of steps; unbroken plans; moves.
  -- Each is a field of NarrowLaw (crate narrow, specs/Laws.antt).
  pub narrowing : NarrowLaw overload_of whole w told.outcome
  -- for every plan in the answered windows that keeps the entry itself in one piece if it is whole: its end is at least the least end
  pub end_bound : (v : Narrowed) → told.outcome ≡ answered v → (k : ℕ) → k < w.n
      → (m : ℕ → ℕ) → Keeping whole v.windows k m → (e : ℕ) → IsEnd w.h m k e → told.end k ≤ e
  -- and its start at most the greatest start
  pub start_bound : (v : Narrowed) → told.outcome ≡ answered v → (k : ℕ) → k < w.n
      → (m : ℕ → ℕ) → Keeping whole v.windows k m → (s : ℕ) → IsStart w.h m k s → s ≤ told.start k
  -- the early plan is document 01's, is such a plan, and has that end
  pub early_is : (v : Narrowed) → told.outcome ≡ answered v → (k : ℕ) → k < w.n
      → IsEarly whole v.windows k (told.end k) (told.early k)
  -- the late plan is document 01's, is such a plan, and has that start
  pub late_is : (v : Narrowed) → told.outcome ≡ answered v → (k : ℕ) → k < w.n
      → IsLate whole v.windows k (told.start k) (told.late k)
