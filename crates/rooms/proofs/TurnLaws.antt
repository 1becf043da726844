-- The law of one turn.
-- Assumes nothing.
use mathlib.Core.Path.{◌≡◌, refl, sym, ap, ◌∙◌, subst}
use mathlib.Core.Bool.{Bool, true, false, true≢false}
use mathlib.Core.List.{List}
use Prim.Native.Nat.{ℕ, ◌<◌, ◌≤◌}
use native.Mathlib.Omega.{arith}
use borrow.Author.Tests.{eq-eqb, ne_eqb}
use lib.ListN.{length, get_or, length-set, take}
use lib.Seq.{get_or-set_other, get_or-set_same}
use Rattle.base.specs.Outcomes.{Code, Outcome, answered, refused}
use Rattle.base.proofs.Inversion.{answered_refused, answered_same, refused_same}
use Rattle.base.proofs.Sums.{le_or_lt}
use Rattle.list.specs.Machine.{Bytes}
use Rattle.list.specs.DayLists.{whole_in}
use Rattle.list.specs.Checks.{WellFormed}
use Rattle.list.specs.declared.types.DayList.{DayList}
use Rattle.format.specs.Writing.{bytes_of}
use Rattle.windows.specs.Windows.{windows_of}
use Rattle.windows.specs.Intervals.{overload_of}
use Rattle.windows.proofs.FormedLists.{list_formed}
use Rattle.narrow.specs.Rounds.{Narrowed, unmoved, round}
use Rattle.narrow.specs.Calls.{list_with, listed, round_of}
use Rattle.narrow.proofs.Costs.{round_cost}
use Rattle.shares.proofs.StandingLists.{share_form, share_behind}
use Rattle.shares.specs.Shares.{front_of}
use Rattle.shares.proofs.FrontLaws.{front_stands, front_law}
use Rattle.rooms.specs.Cycles.{number_after, number_used}
use Rattle.rooms.specs.Rooms.{is_unfinished, row_after, share_after, said_by, own_turn, unfinished}
use Rattle.rooms.specs.Turns.{Lent, no_row, row_in, share_of, put_share, Turn, took, none_unfinished, room_for, round_for, turn_of}
use Rattle.rooms.specs.Turns.{lent_by, lent_after, Desk, starts, cycle_of}
use Rattle.rooms.specs.Laws.{Fit, IsNext, CountsOn, RoundMade, RoomRefused, OwnRound, TakesRoom, TurnLaw}
use Rattle.rooms.specs.declared.types.Room.{Room}
use Rattle.rooms.proofs.CyclicOrder.{after_cases, used_same, used_past, ahead, ahead_up, ahead_last, ahead_zero}
use Rattle.rooms.proofs.CyclicOrder.{next_some, next_first}
use Rattle.rooms.proofs.CycleLaws.{taken_unfinished}
use Rattle.rooms.proofs.NarrowedLists.{form_grows}
use Rattle.rooms.proofs.SharesApart.{share_is_bytes, share_same, byte_other, put_length, put_back}
use Rattle.rooms.proofs.DeskTurns.{Good, turn_took, turn_nothing, share_inside, new_length}
use Rattle.rooms.proofs.TurnFacts.{rows_passed, no_rooms, many_rooms, short_lists, number_past, counts_on, stops_as, made_as}

lent_is : (x : Lent) (number : ℕ) (o : Outcome Turn) → turn_of x number ≡ o → lent_after x number ≡ lent_by o x
unfolding lent_after
lent_is x number o e = rw e

-- a round leaves a list whose one form is at least as long
round_grows : (l : DayList) → WellFormed l → (left : DayList) (moved : ℕ) → listed l (round_of l) ≡ answered (left, moved)
    → length (bytes_of l) ≤ length (bytes_of left)
unfolding round_of
round_grows l formed left moved e = go (round overload_of (whole_in l) (unmoved (windows_of l))) refl (rw formed at e)
  where
    go : (o : Outcome Narrowed) → round overload_of (whole_in l) (unmoved (windows_of l)) ≡ o → listed l o ≡ answered (left, moved)
        → length (bytes_of l) ≤ length (bytes_of left)
    go (answered v) r q =
        let is : list_with l v.windows ≡ left = ap (λ (x : DayList × ℕ). x.0) (answered_same refl q) in
        let cost = round_cost overload_of (whole_in l) (unmoved (windows_of l)) (list_formed l formed) v r in
        subst (λ (x : DayList). length (bytes_of l) ≤ length (bytes_of x)) is (form_grows l v.windows formed cost.keeps)
    go (refused c) r q = absurd (answered_refused q refl)

-- the parts of an answer that takes a room
abbrev takes : Turn → Bool
takes (took k said next) = true
takes (none_unfinished used) = false

abbrev room_of : Turn → ℕ
room_of (took k said next) = k
room_of (none_unfinished used) = 0

abbrev said_of : Turn → Outcome (Unit {0})
said_of (took k said next) = said
said_of (none_unfinished used) = answered tt

abbrev next_of : Turn → ℕ
next_of (took k said next) = next
next_of (none_unfinished used) = used

module _ (x : Lent) (b : Bytes x.lists) where
  abbrev m : ℕ
  m = length x.rows

  pub good : Fit x → Good x
  good fit = record { fit = fit; reads = λ i h. front_stands (share_of i x.lists) (share_is_bytes i x.lists b) }

  front_formed : (k : ℕ) (l : DayList) → front_of (share_of k x.lists) ≡ answered l → WellFormed l
  front_formed k = (front_law (share_of k x.lists) (share_is_bytes k x.lists b)).formed

  module _ (number : ℕ) where
    abbrev d : Desk
    d = starts x number

    abbrev y : Lent
    y = lent_after x number

    abbrev goes : ℕ → Bool
    goes i = is_unfinished (row_in x i).stage

    -- the room taken is the next unfinished one
    is_next : (k : ℕ) → room_for x number ≡ k → k < m → IsNext x number k
    is_next k is h =
        record {
          inside = h;
          goes = taken_unfinished unfinished own_turn m (cycle_of d) k is h;
          upward = λ i a c. le_or_lt m number
              (λ past. absurd (omega (arith, past, a, c, h)))
              (λ low. passed i (omega (arith, c, h)) (rw (used_same m number low) (ahead_up m number i k a c)));
          to_last = λ before i a c. le_or_lt m number
              (λ past. absurd (omega (arith, past, a, c)))
              (λ low. passed i c (rw (used_same m number low) (ahead_last m number i k before a c)));
          from_zero = λ before i c. le_or_lt m number
              (λ past. passed i (omega (arith, c, h)) (rw (used_past m number past) (ahead_up m 0 i k (omega arith) c)))
              (λ low. passed i (omega (arith, c, h)) (rw (used_same m number low) (ahead_zero m number i k before low c)));
        }
      where
        passed : (i : ℕ) → i < m → ahead m (number_used m number) i < ahead m (number_used m number) k → goes i ≡ false
        passed i l before =
            let used = number_used m number in
            next_first goes m number i l (subst (λ (j : ℕ). ahead m used i < ahead m used j) (sym is) before)

    -- a turn that took room k
    module _ (k : ℕ) (said : Outcome (Unit {0})) (next : ℕ) (e : turn_of x number ≡ answered (took k said next)) (fit : Fit x)
        (h : k < m) where
      row : Room
      row = row_after (row_in x k) (round_for x k)

      share : List ℕ
      share = share_after (share_of k x.lists) (round_for x k)

      lent : y ≡ lent_by (answered (took k said next)) x
      lent = lent_is x number (answered (took k said next)) e

      row_is : row_in y k ≡ row
      unfolding row
      row_is = ap (λ (z : Lent). row_in z k) lent ∙ get_or-set_same x.rows k (row_after (row_in x k) (round_for x k)) no_row h

      share_is : share_of k y.lists ≡ share
      unfolding share
      share_is =
          ap (λ (z : Lent). share_of k z.lists) lent
          ∙ share_same k (share_after (share_of k x.lists) (round_for x k)) x.lists (share_inside d (good fit) k h)
          (new_length d (good fit) k h)

      refused_facts : (c : Code) → round_for x k ≡ refused c → RoomRefused x k c y
      unfolding row
      refused_facts c r =
          let is = row_is ∙ ap (row_after (row_in x k)) r in
          record {
            why = stops_as x k (front_formed k) c r;
            stage = ap (λ (z : Room). z.stage) is;
            rounds = ap (λ (z : Room). z.rounds) is;
            moves = ap (λ (z : Room). z.moves) is;
            lists =
                ap (λ (z : Lent). z.lists) lent
                ∙ ap (λ (o : Outcome (DayList × ℕ)). put_share k (share_after (share_of k x.lists) o) x.lists) r
                ∙ put_back k x.lists;
          }

      made_facts : (left : DayList) (moved : ℕ) → round_for x k ≡ answered (left, moved) → RoundMade x k y
      unfolding row share
      made_facts left moved r =
          let is = row_is ∙ ap (row_after (row_in x k)) r in
          let new = share_is ∙ ap (share_after (share_of k x.lists)) r in
          let by = made_as x k left moved r in
          record {
            given = by.given;
            reads = by.reads;
            tested = by.tested;
            left = left;
            moved = moved;
            round = by.round;
            last = λ z. ap (λ (q : Room). q.stage) is ∙ rw (eq-eqb moved 0 z);
            more = λ z. ap (λ (q : Room). q.stage) is ∙ rw (ne_eqb moved 0 z);
            rounds = subst (CountsOn (row_in x k).rounds 1) (sym (ap (λ (q : Room). q.rounds) is)) (counts_on (row_in x k).rounds 1);
            moves = subst (CountsOn (row_in x k).moves moved) (sym (ap (λ (q : Room). q.moves) is)) (counts_on (row_in x k).moves moved);
            form = ap (take (length (bytes_of left))) new ∙ share_form left (share_of k x.lists);
            grows = round_grows by.given (front_formed k by.given by.reads) left moved by.round;
            behind = λ j q. ap (λ (z : List ℕ). get_or z j 0) new ∙ share_behind left (share_of k x.lists) j q;
          }

      own_round : (o : Outcome (DayList × ℕ)) → round_for x k ≡ o → (u : Outcome (Unit {0})) → said_by o ≡ u → OwnRound x k u y
      own_round (answered v) r (answered u) q = made_facts v.0 v.1 r
      own_round (answered v) r (refused c) q = absurd (answered_refused {a = tt} refl q)
      own_round (refused c) r (answered u) q = absurd (answered_refused {o = refused c} {a = u} {x = c} q refl)
      own_round (refused c) r (refused u) q = refused_facts u (r ∙ ap refused (refused_same {a = c} {b = u} refl q))

      takes_room : room_for x number ≡ k → said_by (round_for x k) ≡ said → number_after m k ≡ next → TakesRoom x number k said next y
      takes_room is by after =
          record {
            is_next = is_next k is h;
            round = own_round (round_for x k) refl said by;
            other_rows = λ i ne.
                ap (λ (z : Lent). row_in z i) lent ∙ get_or-set_other x.rows k i (row_after (row_in x k) (round_for x k)) no_row ne;
            other_bytes = λ j out.
                ap (λ (z : Lent). get_or z.lists j 0) lent
                ∙ byte_other k (share_after (share_of k x.lists) (round_for x k)) x.lists (share_inside d (good fit) k h)
                (new_length d (good fit) k h) j out;
            after = λ l. after_cases m k (λ _ z. sym after ∙ z ∙ omega arith) (λ g z. absurd (omega (arith, g, l)));
            after_last = λ l. after_cases m k (λ g z. absurd (omega (arith, g, l))) (λ _ z. sym after ∙ z);
          }

    taken : (k : ℕ) (said : Outcome (Unit {0})) (next : ℕ) → turn_of x number ≡ answered (took k said next)
        → TakesRoom x number k said next y
    taken k said next e =
        rows_passed x number
        (λ fit. le_or_lt m (room_for x number)
        (λ h. absurd (true≢false (sym (ap takes (answered_same (turn_nothing x number fit h) e)))))
        (λ h. one fit h (answered_same (turn_took x number fit (room_for x number) refl h) e)))
        (λ c r. absurd (answered_refused e r))
      where
        one : Fit x → room_for x number < m
            → took (room_for x number) (said_by (round_for x (room_for x number))) (number_after m (room_for x number)) ≡ took k said next
            → TakesRoom x number k said next y
        one fit h q =
            let is : room_for x number ≡ k = ap room_of q in
            takes_room k said next e fit (omega (arith, is, h)) is
            (ap (λ (j : ℕ). said_by (round_for x j)) (sym is) ∙ ap said_of q) (ap (number_after m) (sym is) ∙ ap next_of q)

    -- a turn that is refused or finds nothing unfinished leaves what is lent
    refused_stays : (c : Code) → turn_of x number ≡ refused c → y ≡ x
    refused_stays c e = lent_is x number (refused c) e

    all_finished : ((i : ℕ) → i < m → goes i ≡ false) → m ≤ room_for x number
    all_finished done =
        let k = room_for x number in
        le_or_lt m k (λ h. h)
        (λ h. absurd (true≢false (sym (taken_unfinished unfinished own_turn m (cycle_of d) k refl h) ∙ done k h)))

    Lengths : Lent → Type 0
    Lengths z = (length z.rows ≡ m) × (length z.lists ≡ length x.lists)

    lengths : Lengths y
    unfolding Lengths
    lengths =
        rows_passed x number
        (λ fit. le_or_lt m (room_for x number)
        (λ h. rw (lent_is x number _ (turn_nothing x number fit h)) (refl, refl))
        (λ h.
        let k = room_for x number in
        let new = share_after (share_of k x.lists) (round_for x k) in
        rw (lent_is x number _ (turn_took x number fit k refl h)) (
          length-set x.rows k (row_after (row_in x k) (round_for x k)),
          put_length k new x.lists (share_inside d (good fit) k h) (new_length d (good fit) k h),
        )))
        (λ c e. rw (refused_stays c e) (refl, refl))

    pub turn_law : TurnLaw x number
    unfolding Lengths
    turn_law =
        record {
          no_rooms = no_rooms x number;
          many_rooms = many_rooms x number;
          short_lists = short_lists x number;
          answers = λ fit.
              let k = room_for x number in
              le_or_lt m k
              (λ h. (none_unfinished (number_used m number), turn_nothing x number fit h))
              (λ h. (took k (said_by (round_for x k)) (number_after m k), turn_took x number fit k refl h));
          fits = λ t e. rows_passed x number (λ fit. fit) (λ c r. absurd (answered_refused e r));
          refusal = refused_stays;
          some = λ fit i h is.
              let k = room_for x number in
              let below = next_some goes m number i h is in
              (k, said_by (round_for x k), number_after m k, turn_took x number fit k refl below);
          taken = taken;
          nothing = λ fit done.
              let none = turn_nothing x number fit (all_finished done) in
              (number_used m number, none, lent_is x number _ none, used_same m number, used_past m number);
          past_last = number_past x number;
          rows_stay = lengths.0;
          lists_stay = lengths.1;
        }
