-- Filling a plan buffer by stretches, in each case that the code meets.
-- Assumes nothing.
use borrow.Rule.Slice.PartMut.{put_mid, mid_of}
use mathlib.Core.Path.{◌≡◌, refl, sym, ◌∙◌, ap}
use mathlib.Core.List.{List, ◌++◌}
use Prim.Native.Nat.{ℕ, ◌+◌, ◌<◌, ◌≤◌}
use native.Mathlib.Omega.{arith}
use lib.ListN.{length, drop, replicate, length-drop}
use lib.Seq.{paste, take_at, length_front, length-take-le}
use Rattle.std.proofs.lemmas.List.{length-replicate, get_or-replicate, take-replicate}
use Rattle.std.proofs.lemmas.Slice.{put_mid-paste, drop-append-drop}
use Rattle.base.specs.Counting.{list_of}
use Rattle.jackson.specs.Minutes.{State, state_in, minute_of, later, place_at}
use Rattle.jackson.specs.Stretches.{Stretches}
use Rattle.jackson.specs.Internal.{Fillable}
use Rattle.jackson.specs.declared.types.Day.{Day}
use Rattle.jackson.specs.declared.types.Stretch.{Stretch}
use Rattle.base.proofs.Listed.{list_length, list_is, list_append}
use Rattle.jackson.proofs.Schedules.{later_time, later_h}
use Rattle.jackson.proofs.Stretches.{later_later, stretch_some, stretch_in_day}

-- the first i of h places are stored, and the day has gone i minutes on from s, of whose day h are left
pub record Stored (s : State) (h : ℕ) (old new : List ℕ) (day : Day) (i : ℕ) : Type 0 where
  pub room : h ≤ length old
  pub rest : s.t + h ≡ s.windows.h
  pub passed : i ≤ h
  pub now : state_in day ≡ later i s
  pub bytes : new ≡ list_of i (place_at s) ++ drop i old

module _ (s : State) (h : ℕ) (old : List ℕ) where
  pub store_start : (day : Day) → Fillable day h (length old) → s ≡ state_in day → Stored s h old old day 0
  unfolding later list_of
  store_start day left e =
      record { room = left.room; rest = rw e left.rest; passed = omega arith; now = sym e; bytes = refl }

  -- a place stored for its m minutes
  module _ (i x m : ℕ) (room : i + m ≤ length old) (each : (j : ℕ) → j < m → place_at s (i + j) ≡ x) where
    same_places : list_of i (place_at s) ++ replicate m x ≡ list_of (i + m) (place_at s)
    same_places =
        let z = list_is m (λ j. place_at s (i + j)) 0 (replicate m x) (length-replicate m x)
        (λ j l. each j l ∙ sym (get_or-replicate m j x 0 l)) in
        rw (← z) (list_append i m (place_at s))

    store_several : paste (list_of i (place_at s) ++ drop i old) i (replicate m x) m ≡ list_of (i + m) (place_at s) ++ drop (i + m) old
    store_several =
        let n = list_length i (place_at s) in
        rw (
          take_at (list_of i (place_at s)) (drop i old) i n,
          take-replicate m m x (omega arith),
          drop-append-drop i old (list_of i (place_at s)) (i + m) (omega arith) n,
          same_places,
        )

  module _ (new : List ℕ) (day : Day) (i : ℕ) (so : Stored s h old new day i) where
    pub store_long : length new ≡ length old
    store_long =
        let fits : i ≤ length old = omega (arith, so.passed, so.room) in
        rw so.bytes (length_front old (list_of i (place_at s)) i (list_length i (place_at s) ∙ sym (length-take-le i old fits)))

    module _ (below : i < h) (x : Stretch) (turn : Stretches day x) where
      day_time : day.t ≡ s.t + i
      day_time = ap (λ (z : State). z.t) so.now ∙ later_time s i (omega (arith, so.rest))

      day_end : day.windows.h ≡ s.t + h
      day_end = ap (λ (z : State). z.windows.h) so.now ∙ later_h s i ∙ sym so.rest

      on : day.t < day.windows.h
      on = omega (arith, day_time, day_end, below)

      -- the stretch has a minute, and no more than are left
      pub turn_some : 1 ≤ x.minutes
      turn_some = omega (arith, turn.minutes, stretch_some (state_in day) (omega arith) on)

      pub turn_fits : i + x.minutes ≤ h
      turn_fits = omega (arith, turn.minutes, stretch_in_day (state_in day) (omega arith) on, day_time, day_end)

      turn_places : (j : ℕ) → j < x.minutes → place_at s (i + j) ≡ x.place
      turn_places j l =
          ap (λ (z : State). (minute_of z).place) (sym (later_later s i j) ∙ ap (later j) (sym so.now)) ∙ turn.places j l

      pub store_next : (m k : ℕ) (part : List ℕ) → m ≡ x.minutes → m ≡ k → part ≡ replicate (length (mid_of i k new)) x.place
          → Stored s h old (put_mid i k new part) x.day (i + m)
      store_next m k part e is stored =
          let fits : i + m ≤ length old = omega (arith, e, turn_fits, so.room) in
          let enough : k ≤ length (drop i new) = simp length-drop (omega (arith, is, fits, store_long)) in
          let long : length (mid_of i k new) ≡ m = length-take-le k (drop i new) enough ∙ sym is in
          record {
            room = so.room;
            rest = so.rest;
            passed = omega (arith, e, turn_fits);
            now = turn.next ∙ rw (← turn.minutes, ← e) (ap (later m) so.now ∙ later_later s i m);
            bytes =
                put_mid-paste i k new part (replicate m x.place) m (rw long at stored) is (sym (length-replicate m x.place))
                ∙ rw so.bytes (store_several i x.place m fits (λ j l. turn_places j (omega (arith, e, l))));
          }
