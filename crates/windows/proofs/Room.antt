-- Windows that have room, and the test of it.
-- Assumes nothing.
use mathlib.Core.Path.{◌≡◌, refl, sym, ◌∙◌}
use mathlib.Core.Bool.{Bool, true, false, not, false≢true}
use mathlib.Core.List.{[], ◌∷◌}
use Prim.Native.Nat.{ℕ, ◌+◌, ◌<◌, ◌≤◌}
use native.Mathlib.Omega.{arith}
use borrow.Author.Tests.{le-leb, lt-leb, lt-ltb, le-ltb, eq-eqb, ne_eqb}
use lib.Dec.{leb}
use Rattle.base.specs.Outcomes.{code, answered, refused}
use Rattle.base.specs.Counting.{first_below}
use Rattle.base.proofs.Inversion.{answered_refused}
use Rattle.base.proofs.Sums.{le_or_lt, same_cases}
use Rattle.base.proofs.Searches.{First, first_below_lem, passed_all}
use Rattle.windows.specs.Windows.{Windows, has_room, room_fault, Roomy, Formed, Inside, with_windows}

-- an entry with room
pub record Room (h r d p : ℕ) : Type 0 where
  pub minutes : 1 ≤ p
  pub in_day : d ≤ h
  pub room : r + p ≤ d

module _ (h r d p : ℕ) where
  pub room_passes : Room h r d p → has_room h r d p ≡ true
  room_passes has = rw (le-leb 1 p has.minutes, le-leb d h has.in_day, le-leb (r + p) d has.room)

  pub room_no_minutes : p < 1 → has_room h r d p ≡ false
  room_no_minutes less = rw (lt-leb 1 p less)

  pub room_past_day : 1 ≤ p → h < d → has_room h r d p ≡ false
  room_past_day some less = rw (le-leb 1 p some, lt-leb d h less)

  pub room_too_short : 1 ≤ p → d ≤ h → d < r + p → has_room h r d p ≡ false
  room_too_short some in_day less = rw (le-leb 1 p some, le-leb d h in_day, lt-leb (r + p) d less)

  -- with a minute needed and d in the day, the sum decides
  pub room_sum : 1 ≤ p → d ≤ h → leb (r + p) d ≡ has_room h r d p
  room_sum some in_day = rw (le-leb 1 p some, le-leb d h in_day)

  pub room_has : has_room h r d p ≡ true → Room h r d p
  room_has e =
      le_or_lt 1 p
      (λ a. le_or_lt d h
      (λ b. le_or_lt (r + p) d
      (λ c. record { minutes = a; in_day = b; room = c })
      (λ c. absurd (false≢true (sym (room_too_short a b c) ∙ e))))
      (λ b. absurd (false≢true (sym (room_past_day a b) ∙ e))))
      (λ a. absurd (false≢true (sym (room_no_minutes a) ∙ e)))

-- the entry at a place has none
abbrev pub lacks_room : Windows → ℕ → Bool
lacks_room w i = not (has_room w.h (w.r i) (w.d i) (w.p i))

module _ (w : Windows) where
  -- no place, up to the end, lacks room
  pub all_room : first_below w.n (lacks_room w) ≡ w.n → room_fault w ≡ answered tt
  unfolding room_fault
  all_room none = rw (none, le-ltb w.n w.n (omega arith))

  -- the first that does is carried, by 6 if it needs no minute
  module _ (i : ℕ) (h : i < w.n) (first : first_below w.n (lacks_room w) ≡ i) where
    pub lacks_minutes : w.p i ≡ 0 → room_fault w ≡ refused (code 6 (i ∷ []))
    unfolding room_fault
    lacks_minutes e = rw (first, lt-ltb i w.n h, eq-eqb (w.p i) 0 e) refl

    pub lacks_room_lem : (w.p i ≡ 0 → ⊥) → room_fault w ≡ refused (code 7 (i ∷ []))
    unfolding room_fault
    lacks_room_lem e = rw (first, lt-ltb i w.n h, ne_eqb (w.p i) 0 e) refl

  -- so windows pass exactly if they have room
  pub formed_passes : Formed w → room_fault w ≡ answered tt
  formed_passes formed =
      all_room (passed_all w.n (lacks_room w) w.n (record { within = omega arith; none_before = each }) (omega arith))
    where
      each : (i : ℕ) → i < w.n → lacks_room w i ≡ true → ⊥
      each i h e =
          let has : has_room w.h (w.r i) (w.d i) (w.p i) ≡ true =
          room_passes _ _ _ _ (record { minutes = formed.minutes i h; in_day = formed.in_day i h; room = formed.room i h }) in
          false≢true (rw has at e)

  pub passes_formed : w.n ≤ 255 → room_fault w ≡ answered tt → Formed w
  passes_formed few e =
      record {
        few = few;
        minutes = λ i h. (each i h).minutes;
        in_day = λ i h. (each i h).in_day;
        room = λ i h. (each i h).room;
      }
    where
      first : First w.n (lacks_room w) (first_below w.n (lacks_room w))
      first = first_below_lem w.n (lacks_room w)

      end : w.n ≤ first_below w.n (lacks_room w)
      end =
          le_or_lt w.n (first_below w.n (lacks_room w)) (λ l. l)
          (λ l. absurd
          (same_cases (w.p (first_below w.n (lacks_room w))) 0
          (λ z _. answered_refused e (lacks_minutes _ l refl z))
          (λ z _. answered_refused e (lacks_room_lem _ l refl z))))

      each : (i : ℕ) → i < w.n → Room w.h (w.r i) (w.d i) (w.p i)
      each i h = go (has_room w.h (w.r i) (w.d i) (w.p i)) refl
        where
          go : (b : Bool) → has_room w.h (w.r i) (w.d i) (w.p i) ≡ b → Room w.h (w.r i) (w.d i) (w.p i)
          go true q = room_has _ _ _ _ q
          go false q = absurd (first.none_before i (omega (arith, end)) (rw q))

-- windows with room have what the law of plans asks
pub formed_roomy : (w : Windows) → Formed w → Roomy w
formed_roomy w formed = record { in_day = λ i h _. formed.in_day i h; room = λ i h _. formed.room i h }

-- windows inside those of w that leave every entry room
pub formed_inside : (w : Windows) → Formed w → (r d : ℕ → ℕ) → Inside (with_windows w r d) w → ((i : ℕ) → i < w.n → r i + w.p i ≤ d i)
    → Formed (with_windows w r d)
formed_inside w formed r d inside room =
    record {
      few = formed.few;
      minutes = formed.minutes;
      in_day = λ i place. omega (arith, formed.in_day i place, inside.d i place);
      room = room;
    }
