-- What the public functions promise of windows: the bounds of their places, and a place's shown plan.
use Rattle.std.specs.Prelude.{ℕ, ◌<◌, ◌≤◌, ◌≡◌, Bool, cond, List, [], ◌∷◌, ◌++◌, length, drop, replicate, leb, Result}
use Rattle.base.specs.Outcomes.{Code, code, Outcome, answered, refused, Row, row, first_of, and_then, accepts}
use Rattle.list.specs.DayLists.{most_entries}
use Rattle.list.specs.Refusals.{outcome_of}
use Rattle.list.specs.declared.types.Refusal.{Refusal}
use Rattle.windows.specs.Windows.{Windows, room_fault}
use Rattle.jackson.specs.Calls.{buffer_row}
use Rattle.bounds.specs.Ends.{least_ends, greatest_starts}
use Rattle.bounds.specs.ShownPlans.{bound_of, shown_plan}
use Rattle.bounds.specs.declared.types.Shown.{Shown}
use Rattle.bounds.specs.declared.types.Bounds.{Bounds}

-- these numbers, or 0 for each place of windows without room
abbrev pub in_room : Windows → List ℕ → List ℕ
in_room w xs = cond (accepts (room_fault w)) xs (replicate most_entries 0)

-- what `bounds_of` answers of the windows w
pub record HoldsBounds (whole : ℕ → Bool) (w : Windows) (b : Bounds) : Type 0 where
  pub ends : b.ends ≡ in_room w (least_ends whole w)
  pub starts : b.starts ≡ in_room w (greatest_starts whole w)

-- "place asked is n or more", which carries that place
abbrev pub place_row : ℕ → ℕ → Row
place_row n k = row 13 (leb n k) k

-- rows 6 and 7 for windows without room, then rows 13 and 11 for a place and a plan buffer of this length
unfoldable pub show_rows : Windows → ℕ → ℕ → Outcome (Unit {0})
show_rows w k room = and_then (room_fault w) (λ _. first_of (place_row w.n k ∷ buffer_row w.h room ∷ []) (answered tt))

-- `show_law` of proofs/ShowLaws.antt: these rows in the table's order, with what 13 and 11 carry
pub record ShowLaw (w : Windows) (k room : ℕ) : Type 0 where
  pub before : (c : Code) → room_fault w ≡ refused c → show_rows w k room ≡ refused c
  pub unknown : room_fault w ≡ answered tt → w.n ≤ k → show_rows w k room ≡ refused (code 13 (k ∷ []))
  pub short : room_fault w ≡ answered tt → k < w.n → room < w.h → show_rows w k room ≡ refused (code 11 (w.h ∷ []))
  pub none : room_fault w ≡ answered tt → k < w.n → w.h ≤ room → show_rows w k room ≡ answered tt

-- what `store_plan` answers of place k in the windows w, where `whole` says whether its entry is whole, and leaves in a plan buffer that
-- held old. "In a longer buffer the bytes after H keep their values." "A refusal writes nothing to any lent buffer."
pub record StoresPlan (x : Shown) (whole : Bool) (w : Windows) (k : ℕ) (old : List ℕ) (a : Result ℕ Refusal) (new : List ℕ) : Type 0 where
  pub outcome : outcome_of a ≡ and_then (show_rows w k (length old)) (λ _. answered (bound_of x (λ _. whole) k w))
  pub buffer : new ≡ cond (accepts (show_rows w k (length old))) (shown_plan x (λ _. whole) k w ++ drop w.h old) old
