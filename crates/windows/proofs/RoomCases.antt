-- Testing windows for room, place by place, as code does.
-- Assumes nothing.
use mathlib.Core.Path.{◌≡◌, sym}
use mathlib.Core.Bool.{false}
use mathlib.Core.List.{[], ◌∷◌}
use Prim.Native.Nat.{ℕ, ◌<◌, ◌≤◌}
use native.Mathlib.Omega.{arith}
use Rattle.base.specs.Outcomes.{code, answered, refused}
use Rattle.base.specs.Counting.{first_below}
use Rattle.base.proofs.Searches.{Passed, passed_found, passed_all}
use Rattle.windows.specs.Windows.{Windows, has_room, room_fault}
use Rattle.windows.proofs.Room.{room_no_minutes, lacks_room, all_room, lacks_minutes, lacks_room_lem}

-- the first i places have room
module _ (w : Windows) (i : ℕ) (so : Passed w.n (lacks_room w) i) where
  pub room_done : w.n ≤ i → answered tt ≡ room_fault w
  room_done h = sym (all_room w (passed_all w.n (lacks_room w) i so h))

  module _ (h : i < w.n) where
    lacking : has_room w.h (w.r i) (w.d i) (w.p i) ≡ false → first_below w.n (lacks_room w) ≡ i
    lacking e = passed_found w.n (lacks_room w) i so (rw e)

    pub room_minutes : w.p i ≡ 0 → refused (code 6 (i ∷ [])) ≡ room_fault w
    room_minutes e = sym (lacks_minutes w i h (lacking (room_no_minutes w.h (w.r i) (w.d i) (w.p i) (omega (arith, e)))) e)

    pub room_stops : (w.p i ≡ 0 → ⊥) → has_room w.h (w.r i) (w.d i) (w.p i) ≡ false → refused (code 7 (i ∷ [])) ≡ room_fault w
    room_stops some e = sym (lacks_room_lem w i h (lacking e) some)
