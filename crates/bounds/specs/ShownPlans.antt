-- The plans that a caller may have shown for a place.
use Rattle.std.specs.Prelude.{ℕ, ◌≡◌, Bool, List}
use Rattle.windows.specs.Windows.{Windows, with_r, with_d}
use Rattle.windows.specs.Plans.{IsEnd, IsStart, places_in, PlanBytes}
use Rattle.windows.specs.Mirrors.{mirror, mirror_plan, mirror_bytes}
use Rattle.windows.specs.Intervals.{overload_of}
use Rattle.jackson.specs.Minutes.{schedule, FollowsJackson}
use Rattle.bounds.specs.Ends.{least_end, greatest_start, Keeping}
use Rattle.bounds.specs.declared.types.Shown.{Shown}
use Rattle.bounds.specs.declared.types.Shown.TheVariants.{Early, Late}

-- "Early: Jackson's schedule with k's d set to its least end": e
abbrev pub early_plan : Windows → ℕ → ℕ → List ℕ
early_plan w k e = schedule (with_d w k e)

-- "Late: the mirror .. of Jackson's schedule of the mirrored list, k's r set first to its greatest start": s
abbrev pub late_plan : Windows → ℕ → ℕ → List ℕ
late_plan w k s = mirror_bytes w.h (schedule (mirror (with_r w k s)))

-- "For any place k the caller may have either plan shown": its bound, the least end or the greatest start, and the plan
abbrev pub bound_of : Shown → (ℕ → Bool) → ℕ → Windows → ℕ
bound_of Early whole k w = least_end overload_of whole w k
bound_of Late whole k w = greatest_start overload_of whole w k

abbrev pub shown_plan : Shown → (ℕ → Bool) → ℕ → Windows → List ℕ
shown_plan Early whole k w = early_plan w k (least_end overload_of whole w k)
shown_plan Late whole k w = late_plan w k (greatest_start overload_of whole w k)

-- the early plan of entry k: document 01's, which follows Jackson's rule; a plan in the windows w that keeps entry k in one piece if it is
-- whole, with the end e
pub record IsEarly (whole : ℕ → Bool) (w : Windows) (k e : ℕ) (bytes : List ℕ) : Type 0 where
  pub rule : bytes ≡ early_plan w k e
  pub follows : FollowsJackson (with_d w k e) (places_in bytes)
  pub plan : PlanBytes w bytes
  pub keeping : Keeping whole w k (places_in bytes)
  pub end : IsEnd w.h (places_in bytes) k e

-- the late plan likewise, with the start s: it follows the rule in the mirror, so from the day's end back, where the minutes left are those
-- not yet placed and the minute before is the one after
pub record IsLate (whole : ℕ → Bool) (w : Windows) (k s : ℕ) (bytes : List ℕ) : Type 0 where
  pub rule : bytes ≡ late_plan w k s
  pub follows : FollowsJackson (mirror (with_r w k s)) (mirror_plan w.h (places_in bytes))
  pub plan : PlanBytes w bytes
  pub keeping : Keeping whole w k (places_in bytes)
  pub start : IsStart w.h (places_in bytes) k s
