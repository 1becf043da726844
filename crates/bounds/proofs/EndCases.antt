-- Least ends, as code makes them.
-- Assumes nothing.
use mathlib.Core.Path.{◌≡◌, refl, sym, ap, ◌∙◌}
use mathlib.Core.Bool.{Bool, true, false, cond, true≢false}
use mathlib.Core.List.{List}
use Prim.Native.Nat.{ℕ, ◌+◌, ◌-◌, ◌<◌, ◌≤◌}
use native.Mathlib.Omega.{arith}
use lib.ListN.{get_or, replicate}
use Rattle.list.specs.DayLists.{by_place}
use Rattle.windows.specs.Windows.{Windows, windows_in, room_fault, Formed}
use Rattle.windows.specs.Plans.{Plannable}
use Rattle.windows.specs.Mirrors.{MirrorOf, mirror}
use Rattle.windows.specs.Intervals.{overload_of}
use Rattle.windows.specs.declared.types.WindowSet.{WindowSet}
use Rattle.list.proofs.ByPlace.{by_place_lem, by_place_same}
use Rattle.base.specs.Outcomes.{Code, answered, refused, accepts}
use Rattle.base.proofs.Inversion.{accepted_answered}
use Rattle.windows.proofs.Room.{passes_formed}
use Rattle.edges.specs.Ends.{closed_end}
use Rattle.edges.proofs.EndLaws.{end_law}
use Rattle.narrow.proofs.OverloadPlanner.{overload_planner}
use Rattle.narrow.proofs.MirrorSearches.{planner_in_mirror}
use Rattle.windows.proofs.MirrorWindows.{formed_mirror}
use Rattle.bounds.specs.Ends.{least_end, least_ends, greatest_starts}
use Rattle.bounds.specs.Calls.{HoldsBounds}
use Rattle.bounds.specs.Internal.{PausesPlanned, AllWhole}
use Rattle.bounds.proofs.EndSearches.{least_end_whole, least_end_found, least_end_range, closed_deadline, given_deadline}
use Rattle.bounds.proofs.MirrorEnds.{start_by_mirror}

-- what code answers for entry k: of a pause entry it knows whether there is a plan, and the closed form
module _ (whole : ℕ → Bool) (w : Windows) (formed : Formed w) (k : ℕ) (place : k < w.n) (planned : Bool) (closed : ℕ)
    (test : whole k ≡ false → planned ≡ accepts (overload_of w)) (is_closed : whole k ≡ false → closed ≡ closed_end w k) where
  has_plan : whole k ≡ false → planned ≡ true → Plannable w
  has_plan is e = (overload_planner.exact w formed).1 (accepted_answered (overload_of w) (sym (test is) ∙ e))

  has_none : whole k ≡ false → planned ≡ false → Plannable w → ⊥
  has_none is e plan = true≢false (ap accepts (sym ((overload_planner.exact w formed).0 plan)) ∙ sym (test is) ∙ e)

  -- it has 16 bits
  pub closed_small : w.h ≤ 65535 → whole k ≡ false → planned ≡ true → closed ≤ 65535
  closed_small short is e =
      omega (arith, is_closed is, (end_law w formed (has_plan is e) k place).due, formed.in_day k place, short)

  pub end_least : cond (whole k) (w.r k + w.p k) (cond planned closed (w.d k)) ≡ least_end overload_of whole w k
  end_least = go (whole k) refl
    where
      pause : whole k ≡ false → (t : Bool) → planned ≡ t → cond t closed (w.d k) ≡ least_end overload_of whole w k
      pause is true e =
          is_closed is ∙ sym (least_end_found overload_of whole w formed k place is _ (closed_deadline w formed k place (has_plan is e)))
      pause is false e = sym (least_end_found overload_of whole w formed k place is _ (given_deadline w formed k place (has_none is e)))

      go : (t : Bool) → whole k ≡ t → cond t (w.r k + w.p k) (cond planned closed (w.d k)) ≡ least_end overload_of whole w k
      go true is = sym (least_end_whole overload_of whole w k is)
      go false is = pause is planned refl

-- if all are whole, there is no pause entry
pub no_pause : {n : ℕ} (whole : ℕ → Bool) {b : Bool} → AllWhole n whole b → b ≡ true → (k : ℕ) → k < n → whole k ≡ false → ⊥
no_pause whole all e k place is = true≢false (sym (all e k place) ∙ is)

-- the closed form that an array has at a place
pub closed_at : (s : WindowSet) (xs : List ℕ) → xs ≡ by_place (windows_in s).n (closed_end (windows_in s)) → (k : ℕ) → k < (windows_in s).n
    → get_or xs k 0 ≡ closed_end (windows_in s) k
closed_at s xs are k place = rw are (by_place_lem (closed_end (windows_in s)) (windows_in s).n k (omega arith) place)

-- windows with room, in arrays
module _ (s : WindowSet) (formed : Formed (windows_in s)) where
  module _ (t : WindowSet) (turned : MirrorOf s t) where
    pub formed_in_mirror : Formed (windows_in t)
    formed_in_mirror = rw turned.windows (formed_mirror (windows_in s) formed)

    -- where a plan exists, one does in the mirror
    pub planned_in_mirror : (whole : ℕ → Bool) (b : Bool) → PausesPlanned whole (windows_in s) b → PausesPlanned whole (windows_in t) b
    planned_in_mirror whole b test k place is =
        let count : (windows_in t).n ≡ (windows_in s).n = ap (λ (w : Windows). w.n) turned.windows in
        rw turned.windows
        (test k (omega (arith, place, count)) is ∙ sym ((planner_in_mirror overload_planner).accepted (windows_in s) formed))

    -- the mirrors of the least ends in the mirror
    module _ (whole : ℕ → Bool) (ends : List ℕ) (are : ends ≡ least_ends whole (windows_in t)) where
      mirror_end : (i : ℕ) → i < (windows_in s).n → get_or ends i 0 ≡ least_end overload_of whole (mirror (windows_in s)) i
      mirror_end i h =
          let count : (windows_in t).n ≡ (windows_in s).n = ap (λ (w : Windows). w.n) turned.windows in
          ap (λ (xs : List ℕ). get_or xs i 0) are
          ∙ by_place_lem _ (windows_in t).n i (omega arith) (omega (arith, count, h))
          ∙ ap (λ (w : Windows). least_end overload_of whole w i) turned.windows

      pub mirror_end_in_day : (i : ℕ) → i < (windows_in s).n → get_or ends i 0 ≤ s.h
      mirror_end_in_day i h =
          let there = formed_mirror (windows_in s) formed in
          let due = (least_end_range overload_of whole (mirror (windows_in s)) there i h).1 in
          omega (arith, mirror_end i h, due, there.in_day i h)

      pub starts_by_mirror : by_place (windows_in s).n (λ i. s.h - get_or ends i 0) ≡ greatest_starts whole (windows_in s)
      starts_by_mirror =
          by_place_same (windows_in s).n _ _
          (λ i h.
          ap (λ (x : ℕ). s.h - x) (mirror_end i h)
          ∙ sym (start_by_mirror overload_planner (windows_in s) formed i h whole))

-- The bounds of windows, by what the test for room said.
module _ (s : WindowSet) where
  pub room_formed : answered tt ≡ room_fault (windows_in s) → Formed (windows_in s)
  room_formed e = passes_formed (windows_in s) (omega arith) (sym e)

  module _ (whole : ℕ → Bool) (ends starts : List ℕ) where
    pub bounds_none : {k : Code} → refused k ≡ room_fault (windows_in s) → ends ≡ replicate 64 0 → starts ≡ replicate 64 0
        → HoldsBounds whole (windows_in s) (record { ends = ends; starts = starts })
    bounds_none e p q = record { ends = rw (← e) p; starts = rw (← e) q }

    pub bounds_held : answered tt ≡ room_fault (windows_in s) → ends ≡ least_ends whole (windows_in s)
        → starts ≡ greatest_starts whole (windows_in s) → HoldsBounds whole (windows_in s) (record { ends = ends; starts = starts })
    bounds_held e p q = record { ends = rw (← e) p; starts = rw (← e) q }
