-- The fast way and the defined way find the same bounds.
-- Assumes nothing.
use mathlib.Core.Path.{◌≡◌, refl, sym, ap, ◌∙◌}
use mathlib.Core.Bool.{Bool, true}
use Prim.Native.Nat.{ℕ, ◌-◌, ◌<◌}
use Rattle.base.specs.Outcomes.{accepts}
use Rattle.list.proofs.ByPlace.{by_place_same}
use Rattle.windows.specs.Windows.{Windows, Formed}
use Rattle.windows.specs.Plans.{Plannable}
use Rattle.windows.specs.Mirrors.{mirror}
use Rattle.windows.specs.Intervals.{overload_of}
use Rattle.windows.proofs.MirrorWindows.{formed_mirror, plannable_mirror}
use Rattle.edges.specs.Ends.{closed_end}
use Rattle.narrow.proofs.OverloadPlanner.{overload_planner}
use Rattle.bounds.specs.Ends.{least_end, greatest_start}
use Rattle.bounds.specs.FastEnds.{fast_end, FastBounds}
use Rattle.bounds.proofs.EndCases.{end_least}
use Rattle.bounds.proofs.MirrorEnds.{start_by_mirror}

pub end_same : (whole : ℕ → Bool) (w : Windows) → Formed w → Plannable w → (k : ℕ) → k < w.n
    → fast_end whole w k ≡ least_end overload_of whole w k
end_same whole w formed planned k place =
    end_least whole w formed k place true (closed_end w k) (λ _. ap accepts (sym ((overload_planner.exact w formed).0 planned))) (λ _. refl)

pub start_same : (whole : ℕ → Bool) (w : Windows) → Formed w → Plannable w → (k : ℕ) → k < w.n
    → w.h - fast_end whole (mirror w) k ≡ greatest_start overload_of whole w k
start_same whole w formed planned k place =
    ap (λ (x : ℕ). w.h - x) (end_same whole (mirror w) (formed_mirror w formed) (plannable_mirror w planned) k place)
    ∙ sym (start_by_mirror overload_planner w formed k place whole)

pub fast_bounds : (whole : ℕ → Bool) (w : Windows) → Formed w → Plannable w → FastBounds whole w
fast_bounds whole w formed planned =
    record {
      ends = by_place_same w.n _ _ (end_same whole w formed planned);
      starts = by_place_same w.n _ _ (start_same whole w formed planned);
    }
