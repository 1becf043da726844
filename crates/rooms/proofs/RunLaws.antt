-- The laws of turns one after the other.
-- Assumes nothing.
use mathlib.Core.Path.{◌≡◌, refl, sym, ap, ◌∙◌, subst}
use mathlib.Core.Logic.{◌↔◌, ◌⊎◌, inl, inr}
use mathlib.Core.Bool.{true, false, true≢false}
use mathlib.Core.List.{List}
use Prim.Native.Nat.{ℕ, suc, ◌+◌, ◌-◌, ◌*◌, ◌<◌, ◌≤◌}
use native.Mathlib.Omega.{arith}
use borrow.Author.Tests.{eq-eqb, ne_eqb}
use lib.ListN.{length}
use Rattle.base.specs.Outcomes.{Code, Outcome, answered, refused}
use Rattle.base.proofs.Inversion.{answered_refused}
use Rattle.base.proofs.Sums.{le_or_lt, eq_or_ne}
use Rattle.list.specs.Machine.{Bytes}
use Rattle.list.specs.declared.types.DayList.{DayList}
use Rattle.rooms.specs.Cycles.{Cycle, cycle_turns, alone, own_turns}
use Rattle.rooms.specs.Rooms.{is_unfinished, RoomState, own_turn, unfinished, answer_alone, slack_of}
use Rattle.rooms.specs.Turns.{Lent, share_of, room_for, turn_of, Desk, desk_turn, starts, after_turns, room_in, cycle_of}
use Rattle.rooms.specs.Laws.{Fit}
use Rattle.rooms.specs.Runs.{FreshRoom, FewCounts, Ends, SlackLaw, TurnsLaw, own_by, LeftTo, no_turn, one_more, LeftLaw}
use Rattle.rooms.specs.declared.types.Stage.{Stage}
use Rattle.rooms.specs.declared.types.Stage.TheVariants.{Settled, Refused}
use Rattle.rooms.proofs.CycleLaws.{taken_unfinished, turn_own, turn_other, finished, projected}
use Rattle.rooms.proofs.CycleLaws.{alone_zero, alone_next, alone_finished, alone_add}
use Rattle.rooms.proofs.RoomEnds.{room_finishes, fresh_ends, fresh_counts, fresh_finished}
use Rattle.rooms.proofs.SharesApart.{share_is_bytes}
use Rattle.rooms.proofs.DeskTurns.{turn_took, turn_nothing, room_turn, cycle_turns_lem}
use Rattle.rooms.proofs.TurnFacts.{rows_passed}
use Rattle.rooms.proofs.TurnLaws.{good}

slack_law : (share : List ℕ) → SlackLaw share
unfolding slack_of
slack_law share = record { read = λ l e. rw e; unread = λ k e. rw e }

-- settled is not refused
not_both : (s : Stage) → s ≡ Settled → s ≡ Refused → ⊥
not_both s e f = let z : ◌≡◌ {A = ℕ} 0 1 = cc (e, f) in omega arith

ends_refused : (o : Outcome (DayList × ℕ)) (s : RoomState) → Ends o s → (s.row.stage ≡ Refused) ↔ ((k : Code) × (o ≡ refused k))
ends_refused (answered x) s e =
    (λ f. absurd (not_both s.row.stage e.stage f), λ z. absurd (answered_refused {a = x} refl z.1))
ends_refused (refused k) s e = (λ f. (k, refl), λ z. e.stage)

-- all that is lent is left to the turns
module _ (x : Lent) (b : Bytes x.lists) (number : ℕ) (fit : Fit x) where
  abbrev m : ℕ
  m = length x.rows

  abbrev first : Desk
  first = starts x number

  room_after_lem : (t i : ℕ) → room_in (after_turns x number t) i ≡ (cycle_turns unfinished own_turn m t (cycle_of first)).rooms i
  room_after_lem t i = ap (λ (c : Cycle RoomState). c.rooms i) (cycle_turns_lem t first (good x b fit))

  own_alone : (i t : ℕ) → i < m
      → room_in (after_turns x number t) i ≡ alone unfinished own_turn (own_turns unfinished own_turn m t (cycle_of first) i)
      (room_in first i)
  own_alone i t h = room_after_lem t i ∙ projected unfinished own_turn m t (cycle_of first) i h

  module _ (i t : ℕ) (h : i < m) (enough : m * (1 + slack_of (share_of i x.lists)) ≤ t) where
    abbrev s : RoomState
    s = room_in first i

    abbrev minutes : ℕ
    minutes = slack_of (share_of i x.lists)

    in_bytes : Bytes (share_of i x.lists)
    in_bytes = share_is_bytes i x.lists b

    ends_alone : room_in (after_turns x number t) i ≡ alone unfinished own_turn (suc minutes) s
    ends_alone =
        room_after_lem t i
        ∙ finished unfinished own_turn m t (suc minutes) (cycle_of first) i h (room_finishes s in_bytes) (omega (arith, enough))

    is_finished : unfinished (room_in (after_turns x number t) i) ≡ false
    is_finished = ap unfinished ends_alone ∙ room_finishes s in_bytes

    as_alone : FreshRoom s → Ends (answer_alone (share_of i x.lists)) (room_in (after_turns x number t) i)
    as_alone fresh = subst (Ends (answer_alone (share_of i x.lists))) (sym ends_alone) (fresh_ends s fresh in_bytes)

  few_counts : (i t : ℕ) → i < m → FreshRoom (room_in first i) → FewCounts (room_in (after_turns x number t) i)
  few_counts i t h fresh =
      subst FewCounts (sym (own_alone i t h))
      (fresh_counts (room_in first i) fresh (share_is_bytes i x.lists b) (own_turns unfinished own_turn m t (cycle_of first) i))

  pub turns_law : TurnsLaw x number
  turns_law =
      let one : (n : ℕ) → suc n ≡ 1 + n = λ n. omega arith in
      record {
        slack = λ i. slack_law (share_of i x.lists);
        finished = is_finished;
        as_alone = λ i t h fresh enough. as_alone i t h enough fresh;
        refused_exactly = λ i t h fresh enough. ends_refused _ (room_in (after_turns x number t) i) (as_alone i t h enough fresh);
        counts = few_counts;
        own_alone = own_alone;
        ends_alone = λ i t h enough.
            ends_alone i t h enough
            ∙ ap (λ (n : ℕ). alone unfinished own_turn n (room_in first i)) (one (slack_of (share_of i x.lists)));
      }

-- one room's row and share are left to the turns: each turn is its own, or leaves it
refused_desk : (d : Desk) (i : ℕ) (c : Code) → turn_of d.lent d.number ≡ refused c → room_in (desk_turn d) i ≡ room_in d i
unfolding desk_turn
refused_desk d i c e = rw e

-- what a turn leaves of room i, and how many of its own turns that were
record Left (d : Desk) (i own : ℕ) : Type 0 where
  is : room_in (desk_turn d) i ≡ alone unfinished own_turn own (room_in d i)

left_as : (d : Desk) (i : ℕ) → i < length d.lent.rows → Bytes d.lent.lists → Left d i (own_by (turn_of d.lent d.number) i)
left_as d i h b =
    let x = d.lent in
    let m = length x.rows in
    let s = room_in d i in
    let none : alone unfinished own_turn 0 s ≡ s = alone_zero unfinished own_turn s in
    rows_passed x d.number
    (λ fit.
    let turned = room_turn d (good x b fit) i in
    let k = room_for x d.number in
    le_or_lt m k
    (λ past.
    let other : k ≡ i → ⊥ = λ e. omega (arith, e, past, h) in
    rw (turn_nothing x d.number fit past) (record { is = turned ∙ turn_other unfinished own_turn m (cycle_of d) i other ∙ sym none }))
    (λ below. rw (turn_took x d.number fit k refl below)
    (eq_or_ne k i
    (λ own.
    let goes = taken_unfinished unfinished own_turn m (cycle_of d) i own h in
    rw (eq-eqb k i own)
    (record {
      is = turned ∙ turn_own unfinished own_turn m (cycle_of d) i h own
          ∙ sym (alone_zero unfinished own_turn (own_turn s))
          ∙ sym (alone_next unfinished own_turn 0 s goes);
    }))
    (λ other. rw (ne_eqb k i other) (record { is = turned ∙ turn_other unfinished own_turn m (cycle_of d) i other ∙ sym none })))))
    (λ c e. rw e (record { is = refused_desk d i c e ∙ sym none }))

-- so a room is as so many own turns alone leave it; once there was a turn, its share was of bytes
record AsAlone (s : RoomState) (k : ℕ) (u : RoomState) : Type 0 where
  is : u ≡ alone unfinished own_turn k s
  bytes : ((k ≡ 0) × (u ≡ s)) ⊎ Bytes s.share

as_own : (s : RoomState) (k : ℕ) (u : RoomState) → LeftTo s k u → AsAlone s k u
as_own s k u no_turn = record { is = sym (alone_zero unfinished own_turn s); bytes = inl (refl, refl) }
as_own s k u (one_more d i j before h b) =
    let p = as_own s j (room_in d i) before in
    let own = own_by (turn_of d.lent d.number) i in
    record {
      is = (left_as d i h b).is ∙ ap (alone unfinished own_turn own) p.is ∙ sym (alone_add unfinished own_turn j own s);
      bytes = inr (first_bytes p.bytes);
    }
  where
    first_bytes : ((j ≡ 0) × (room_in d i ≡ s)) ⊎ Bytes s.share → Bytes s.share
    first_bytes (inl e) = subst (λ (v : RoomState). Bytes v.share) e.1 (share_is_bytes i d.lent.lists b)
    first_bytes (inr z) = z

module _ (s : RoomState) (fresh : FreshRoom s) where
  goes_on : unfinished s ≡ true
  goes_on = ap is_unfinished fresh.stage

  pub left_law : LeftLaw s fresh
  left_law =
      record {
        counts = λ k u left. let p = as_own s k u left in few k u p p.bytes;
        ends = λ k u left enough. let p = as_own s k u left in ended k u p p.bytes enough;
        as_alone = λ k u left done. let p = as_own s k u left in alike k u p p.bytes done;
      }
    where
      few : (k : ℕ) (u : RoomState) → AsAlone s k u → ((k ≡ 0) × (u ≡ s)) ⊎ Bytes s.share → FewCounts u
      few k u p (inl e) =
          subst FewCounts (sym e.1) (record { rounds = omega (arith, fresh.rounds); moves = omega (arith, fresh.moves) })
      few k u p (inr b) = subst FewCounts (sym p.is) (fresh_counts s fresh b k)

      ended : (k : ℕ) (u : RoomState) → AsAlone s k u → ((k ≡ 0) × (u ≡ s)) ⊎ Bytes s.share → 1 + slack_of s.share ≤ k
          → unfinished u ≡ false
      ended k u p (inl e) enough = absurd (omega (arith, e.0, enough))
      ended k u p (inr b) enough =
          let bound = suc (slack_of s.share) in
          let more = k - bound in
          let done = room_finishes s b in
          let split : k ≡ bound + more = omega (arith, enough) in
          ap unfinished
          (p.is
          ∙ ap (λ (n : ℕ). alone unfinished own_turn n s) split
          ∙ alone_add unfinished own_turn bound more s
          ∙ alone_finished unfinished own_turn more (alone unfinished own_turn bound s) done)
          ∙ done

      alike : (k : ℕ) (u : RoomState) → AsAlone s k u → ((k ≡ 0) × (u ≡ s)) ⊎ Bytes s.share → unfinished u ≡ false
          → Ends (answer_alone s.share) u
      alike k u p (inl e) done = absurd (true≢false (sym goes_on ∙ sym (ap unfinished e.1) ∙ done))
      alike k u p (inr b) done =
          subst (Ends (answer_alone s.share)) (sym p.is) (fresh_finished s fresh b k (ap unfinished (sym p.is) ∙ done))
