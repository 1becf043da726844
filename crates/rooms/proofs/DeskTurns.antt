-- A turn over what is lent is a turn in cyclic order of the rooms there.
-- Assumes nothing.
use mathlib.Core.Path.{◌≡◌, refl, sym, ap, ◌∙◌, fun_ext, subst}
use mathlib.Core.List.{List}
use Prim.Native.Nat.{ℕ, zero, suc, ◌+◌, ◌*◌, ◌<◌, ◌≤◌}
use native.Mathlib.Omega.{arith}
use borrow.Author.Tests.{lt-ltb, le-ltb, ne_eqb, eq-eqb}
use lib.ListN.{length, set, length-set}
use lib.Seq.{get_or-set_same, get_or-set_other}
use Rattle.base.specs.Outcomes.{answered}
use Rattle.base.proofs.Inversion.{Says, Anything}
use Rattle.base.proofs.Sums.{le_or_lt, eq_or_ne}
use Rattle.shares.specs.Shares.{front_of, share_bytes}
use Rattle.shares.proofs.StandingLists.{Stands, share_length}
use Rattle.rooms.specs.Cycles.{number_after, number_used, put_room, Cycle, cycle_turn, cycle_turns}
use Rattle.rooms.specs.Rooms.{RoomState, row_after, share_after, said_by, own_turn, unfinished}
use Rattle.rooms.specs.Turns.{Lent, no_row, row_in, share_of, put_share, took, none_unfinished, room_for, round_for, answer_of, turn_of}
use Rattle.rooms.specs.Turns.{Desk, desk_turn, desk_turns, room_in, cycle_of}
use Rattle.rooms.specs.Laws.{Fit}
use Rattle.rooms.proofs.CycleLaws.{turn_takes, turn_idle, turn_own, turn_other, turns_zero, turns_next}
use Rattle.rooms.proofs.RoomRounds.{Round, stops, settles, goes_on, own_turn_lem}
use Rattle.rooms.proofs.RoomEnds.{Standing, reads_kept}
use Rattle.rooms.proofs.SharesApart.{share_same, share_other, share_size, put_length}

-- what is lent passes rows 19 and 12, and a list stands in each share that reads
pub record Good (x : Lent) : Type 0 where
  pub fit : Fit x
  pub reads : (i : ℕ) → i < length x.rows → Says Stands Anything (front_of (share_of i x.lists))

-- an own turn keeps the share's length
length_kept : (s x : RoomState) → Round s x → length s.share ≡ share_bytes → length x.share ≡ share_bytes
length_kept s x (stops k rest) h = h
length_kept s x (settles l st rest) h = share_length l s.share st.formed h
length_kept s x (goes_on l k st ne less rest) h = share_length l s.share st.formed h

own_share : (d : Desk) (k : ℕ) → (own_turn (room_in d k)).share ≡ share_after (share_of k d.lent.lists) (round_for d.lent k)
unfolding own_turn
own_share d k = refl

module _ (x : Lent) (number : ℕ) (fit : Fit x) where
  abbrev rooms : ℕ
  rooms = length x.rows

  some_rooms : rooms ≡ 0 → ⊥
  some_rooms = omega (arith, fit.some)

  pub turn_took : (k : ℕ) → room_for x number ≡ k → k < rooms
      → turn_of x number ≡ answered (took k (said_by (round_for x k)) (number_after rooms k))
  unfolding turn_of answer_of
  turn_took k e h =
      rw (
        ne_eqb rooms 0 some_rooms,
        le-ltb _ _ fit.few,
        le-ltb (length x.lists) (rooms * share_bytes) fit.long,
        e,
        lt-ltb k rooms h,
      )

  pub turn_nothing : rooms ≤ room_for x number → turn_of x number ≡ answered (none_unfinished (number_used rooms number))
  unfolding turn_of answer_of
  turn_nothing h =
      rw (
        ne_eqb rooms 0 some_rooms,
        le-ltb _ _ fit.few,
        le-ltb (length x.lists) (rooms * share_bytes) fit.long,
        le-ltb (room_for x number) rooms h,
      )

module _ (d : Desk) (good : Good d.lent) where
  abbrev x : Lent
  x = d.lent

  abbrev m : ℕ
  m = length d.lent.rows

  -- what a turn that takes room k leaves
  abbrev new_share : ℕ → List ℕ
  new_share k = share_after (share_of k x.lists) (round_for x k)

  abbrev desk_after : ℕ → Desk
  desk_after k =
      record {
        lent = record { rows = set x.rows k (row_after (row_in x k) (round_for x k)); lists = put_share k (new_share k) x.lists };
        number = number_after m k;
        said = put_room k (said_by (round_for x k)) d.said;
      }

  desk_took : (k : ℕ) → room_for x d.number ≡ k → k < m → desk_turn d ≡ desk_after k
  unfolding desk_turn
  desk_took k e h = rw (turn_took x d.number good.fit k e h)

  desk_nothing : m ≤ room_for x d.number → desk_turn d ≡ record { lent = x; number = number_used m d.number; said = d.said }
  unfolding desk_turn
  desk_nothing h = rw (turn_nothing x d.number good.fit h)

  module _ (k : ℕ) (h : k < m) where
    pub share_inside : k * share_bytes + share_bytes ≤ length x.lists
    share_inside = omega (arith, good.fit.long)

    pub new_length : length (new_share k) ≡ share_bytes
    new_length =
        ap length (sym (own_share d k))
        ∙ length_kept (room_in d k) (own_turn (room_in d k)) (own_turn_lem (room_in d k) (good.reads k h))
        (share_size k x.lists share_inside)

    room_same : room_in (desk_after k) k ≡ own_turn (room_in d k)
    unfolding own_turn
    room_same =
        rw (
          get_or-set_same x.rows k (row_after (row_in x k) (round_for x k)) no_row h,
          share_same k (new_share k) x.lists share_inside new_length,
          eq-eqb k k refl,
        )

    room_other : (i : ℕ) → (i ≡ k → ⊥) → room_in (desk_after k) i ≡ room_in d i
    room_other i ne =
        rw (
          get_or-set_other x.rows k i (row_after (row_in x k) (round_for x k)) no_row ne,
          share_other k (new_share k) x.lists share_inside new_length i ne,
          ne_eqb i k ne,
        )

    abbrev put : ℕ → RoomState
    put = put_room k (own_turn (room_in d k)) (room_in d)

    put_same : put k ≡ own_turn (room_in d k)
    put_same = rw (eq-eqb k k refl)

    put_other : (i : ℕ) → (i ≡ k → ⊥) → put i ≡ room_in d i
    put_other i ne = rw (ne_eqb i k ne)

    each_room : (i : ℕ) → room_in (desk_after k) i ≡ put i
    each_room i = eq_or_ne i k (λ q. rw q (room_same ∙ sym put_same)) (λ ne. room_other i ne ∙ sym (put_other i ne))

    took_cycle : cycle_of (desk_after k) ≡ record { rooms = put; number = number_after m k }
    took_cycle = λ j. record { rooms = fun_ext {f = room_in (desk_after k)} {g = put} each_room j; number = number_after m k }

  -- a turn over what is lent is a turn of the rooms
  pub cycle_turn_lem : cycle_of (desk_turn d) ≡ cycle_turn unfinished own_turn m (cycle_of d)
  cycle_turn_lem =
      le_or_lt m (room_for x d.number)
      (λ h. ap cycle_of (desk_nothing h) ∙ sym (turn_idle unfinished own_turn m (cycle_of d) h))
      (λ h.
      ap cycle_of (desk_took (room_for x d.number) refl h)
      ∙ took_cycle (room_for x d.number) h
      ∙ sym (turn_takes unfinished own_turn m (cycle_of d) (room_for x d.number) refl h))

  rows_kept : length (desk_turn d).lent.rows ≡ m
  rows_kept =
      le_or_lt m (room_for x d.number)
      (λ h. ap (λ (v : Desk). length v.lent.rows) (desk_nothing h))
      (λ h. ap (λ (v : Desk). length v.lent.rows) (desk_took (room_for x d.number) refl h) ∙ length-set x.rows _ _)

  lists_kept : length (desk_turn d).lent.lists ≡ length x.lists
  lists_kept =
      le_or_lt m (room_for x d.number)
      (λ h. ap (λ (v : Desk). length v.lent.lists) (desk_nothing h))
      (λ h.
      let k = room_for x d.number in
      ap (λ (v : Desk). length v.lent.lists) (desk_took k refl h)
      ∙ put_length k (new_share k) x.lists (share_inside k h) (new_length k h))

  pub room_turn : (i : ℕ) → room_in (desk_turn d) i ≡ (cycle_turn unfinished own_turn m (cycle_of d)).rooms i
  room_turn i = ap (λ (c : Cycle RoomState). c.rooms i) cycle_turn_lem

  reads_turn : (i : ℕ) → i < m → Standing (room_in (desk_turn d) i)
  reads_turn i h =
      let s = room_in d i in
      eq_or_ne (room_for x d.number) i
      (λ own.
      subst Standing (sym (room_turn i ∙ turn_own unfinished own_turn m (cycle_of d) i h own))
      (reads_kept s (own_turn s) (own_turn_lem s (good.reads i h)) (good.reads i h)))
      (λ other. subst Standing (sym (room_turn i ∙ turn_other unfinished own_turn m (cycle_of d) i other)) (good.reads i h))

  good_turn : Good (desk_turn d).lent
  good_turn =
      record {
        fit =
            record {
              some = omega (arith, rows_kept, good.fit.some);
              few = omega (arith, rows_kept, good.fit.few);
              long = omega (arith, rows_kept, lists_kept, good.fit.long);
            };
        reads = λ i h. reads_turn i (omega (arith, rows_kept, h));
      }

-- turns over what is lent are turns of the rooms
pub cycle_turns_lem : (t : ℕ) (d : Desk) → Good d.lent
    → cycle_of (desk_turns t d) ≡ cycle_turns unfinished own_turn (length d.lent.rows) t (cycle_of d)
unfolding desk_turns
cycle_turns_lem zero d good = sym (turns_zero unfinished own_turn (length d.lent.rows) (cycle_of d))
cycle_turns_lem (suc t) d good =
    cycle_turns_lem t (desk_turn d) (good_turn d good)
    ∙ (λ j. cycle_turns unfinished own_turn (rows_kept d good j) t (cycle_turn_lem d good j))
    ∙ sym (turns_next unfinished own_turn (length d.lent.rows) t (cycle_of d))
