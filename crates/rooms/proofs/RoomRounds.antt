-- A room's own turns: the rounds of narrowing, one by one, with the list going through its bytes between them.
-- Assumes nothing.
use mathlib.Core.Path.{◌≡◌, refl, sym, ap, ◌∙◌}
use mathlib.Core.Bool.{Bool}
use mathlib.Core.List.{List}
use Prim.Native.Nat.{ℕ, suc, ◌+◌, ◌<◌, ◌≤◌}
use native.Mathlib.Omega.{arith}
use borrow.Author.Tests.{eq-eqb, ne_eqb, lt-leb}
use Rattle.base.specs.Outcomes.{Code, Outcome, answered, refused, and_then}
use Rattle.base.proofs.Inversion.{Says, Anything}
use Rattle.base.proofs.Sums.{eq_or_ne}
use Rattle.list.specs.DayLists.{whole_in}
use Rattle.list.specs.Checks.{WellFormed}
use Rattle.list.specs.declared.types.DayList.{DayList}
use Rattle.windows.specs.Windows.{Windows, windows_of, Formed}
use Rattle.windows.specs.Intervals.{overload_of}
use Rattle.windows.proofs.FormedLists.{list_formed}
use Rattle.narrow.specs.Searching.{Test}
use Rattle.narrow.specs.Rounds.{Narrowed, unmoved, round, rounds, slack}
use Rattle.narrow.specs.Calls.{list_with, round_of, listed}
use Rattle.narrow.proofs.Costs.{Costs, round_cost}
use Rattle.narrow.proofs.RoundsEnd.{rounds_enough}
use Rattle.narrow.proofs.SingleRounds.{round_after}
use Rattle.narrow.proofs.ListWindows.{listed_windows, listed_whole}
use Rattle.shares.specs.Shares.{front_of, share_with}
use Rattle.shares.proofs.StandingLists.{Stands, share_back}
use Rattle.rooms.specs.Rooms.{most_counted, count_on, first_test, RoomState, round_in, room_after, own_turn, slack_of}
use Rattle.rooms.specs.declared.types.Stage.{Stage}
use Rattle.rooms.specs.declared.types.Stage.TheVariants.{Begun}
use Rattle.rooms.proofs.NarrowedLists.{listed_again, stands_with}

-- Counts below 100,000.
pub count_below : (old more : ℕ) → old + more < most_counted → count_on old more ≡ old + more
unfolding count_on
count_below old more h = let z : old < most_counted = omega arith in rw (lt-leb most_counted old z) (omega arith)

-- windows, and moves made before
abbrev pub state : Windows → ℕ → Narrowed
state w m = record { windows = w; moves = m }

-- Rounds with moves made before, by a single round without.
module _ (test : Test) (whole : ℕ → Bool) (w : Windows) (m fuel : ℕ) where
  rounds_stop : (k : Code) → round test whole (unmoved w) ≡ refused k → rounds test whole (suc fuel) (state w m) ≡ refused k
  unfolding rounds
  rounds_stop k e = rw (round_after test whole (state w m), e)

  module _ (v : Narrowed) (e : round test whole (unmoved w) ≡ answered v) where
    rounds_last : v.moves ≡ 0 → rounds test whole (suc fuel) (state w m) ≡ answered (state v.windows m)
    unfolding rounds
    rounds_last q =
        let z : m + v.moves ≡ m = omega (arith, q) in
        rw (round_after test whole (state w m), e, z, eq-eqb m m refl)

    rounds_more : (v.moves ≡ 0 → ⊥) → Formed v.windows → slack whole v.windows < fuel
        → rounds test whole (suc fuel) (state w m) ≡ rounds test whole (suc (slack whole v.windows)) (state v.windows (m + v.moves))
    unfolding rounds
    rounds_more ne formed enough =
        let z : m + v.moves ≡ m → ⊥ = λ q. ne (omega (arith, q)) in
        rw (round_after test whole (state w m), e, ne_eqb (m + v.moves) m z)
        (rounds_enough test whole fuel (suc (slack whole v.windows)) (state v.windows (m + v.moves)) formed enough (omega arith))

-- what the rounds of a list give, from a stage and so many moves on
unfoldable pub rest_read : Stage → ℕ → DayList → Outcome (DayList × ℕ)
rest_read stage m l =
    and_then (first_test stage l)
    (λ _. listed l (rounds overload_of (whole_in l) (suc (slack (whole_in l) (windows_of l))) (state (windows_of l) m)))

unfoldable pub rest_of : Stage → ℕ → List ℕ → Outcome (DayList × ℕ)
rest_of stage m share = and_then (front_of share) (rest_read stage m)

own_turn_as : (s : RoomState) (o : Outcome (DayList × ℕ)) → round_in s.row.stage s.share ≡ o → own_turn s ≡ room_after s o
unfolding own_turn
own_turn_as s o e = ap (room_after s) e

module _ (stage : Stage) (m : ℕ) (share : List ℕ) where
  unread : (k : Code) → front_of share ≡ refused k → (round_in stage share ≡ refused k) × (rest_of stage m share ≡ refused k)
  unfolding round_in rest_of
  unread k e = (rw e, rw e)

  module _ (l : DayList) (e : front_of share ≡ answered l) where
    overloaded : (k : Code) → first_test stage l ≡ refused k → (round_in stage share ≡ refused k) × (rest_of stage m share ≡ refused k)
    unfolding round_in rest_of rest_read
    overloaded k t = (rw (e, t), rw (e, t))

    rest_is : first_test stage l ≡ answered tt
        → rest_of stage m share ≡ listed l
        (rounds overload_of (whole_in l) (suc (slack (whole_in l) (windows_of l))) (state (windows_of l) m))
    unfolding rest_of rest_read
    rest_is t = rw (e, t)

round_is : (stage : Stage) (share : List ℕ) (l : DayList) → front_of share ≡ answered l → first_test stage l ≡ answered tt → WellFormed l
    → round_in stage share ≡ listed l (round overload_of (whole_in l) (unmoved (windows_of l)))
unfolding round_in round_of
round_is stage share l e t formed = rw (e, t, formed)

pub slack_is : (share : List ℕ) (l : DayList) → front_of share ≡ answered l → slack_of share ≡ slack (whole_in l) (windows_of l)
unfolding slack_of
slack_is share l e = rw e

-- What a room's own turn leaves. What its rounds give is said for whatever moves were made before.
pub data Round (s : RoomState) : RoomState → Type 0 where
  stops : (k : Code) → ((m : ℕ) → rest_of s.row.stage m s.share ≡ refused k) → Round s (room_after s (refused k))
  settles : (l : DayList) → Stands l → ((m : ℕ) → rest_of s.row.stage m s.share ≡ answered (l, m))
      → Round s (room_after s (answered (l, 0)))
  goes_on : (l : DayList) (k : ℕ) → Stands l → (k ≡ 0 → ⊥) → k + slack_of (share_with l s.share) ≤ slack_of s.share
      → ((m : ℕ) → rest_of s.row.stage m s.share ≡ rest_of Begun (m + k) (share_with l s.share))
      → Round s (room_after s (answered (l, k)))

-- a round that is answered
module _ (s : RoomState) (l : DayList) (e : front_of s.share ≡ answered l) (st : Stands l) (t : first_test s.row.stage l ≡ answered tt)
    (v : Narrowed) (r : round overload_of (whole_in l) (unmoved (windows_of l)) ≡ answered v) where
  abbrev L : DayList
  L = list_with l v.windows

  cost : Costs (whole_in l) (unmoved (windows_of l)) v
  cost = round_cost overload_of (whole_in l) (unmoved (windows_of l)) (list_formed l st.formed) v r

  st_next : Stands L
  st_next = stands_with l v.windows st cost.keeps

  windows_next : windows_of L ≡ v.windows
  windows_next = listed_windows l v.windows cost.keeps

  whole_next : whole_in L ≡ whole_in l
  whole_next = listed_whole l v.windows cost.keeps

  slack_next : slack_of (share_with L s.share) ≡ slack (whole_in l) v.windows
  slack_next = slack_is (share_with L s.share) L (share_back L s.share st_next) ∙ (λ j. slack (whole_next j) (windows_next j))

  -- the rounds of the list from windows w on, with moves made before
  abbrev rounds_from : Windows → ℕ → Outcome Narrowed
  rounds_from w n = rounds overload_of (whole_in l) (suc (slack (whole_in l) w)) (state w n)

  abbrev spare : ℕ
  spare = slack (whole_in l) (windows_of l)

  rest_now : (m : ℕ) → rest_of s.row.stage m s.share ≡ listed l (rounds_from (windows_of l) m)
  rest_now m = rest_is s.row.stage m s.share l e t

  rest_next : (v.moves ≡ 0 → ⊥) → (m : ℕ) → rest_of s.row.stage m s.share ≡ rest_of Begun (m + v.moves) (share_with L s.share)
  rest_next ne m =
      let more = m + v.moves in
      let less : slack (whole_in l) v.windows < spare = omega (arith, cost.bounded, ne) in
      rest_now m
      ∙ ap (listed l) (rounds_more overload_of (whole_in l) (windows_of l) m spare v r ne cost.keeps.formed less)
      ∙ sym (listed_again l v.windows (rounds_from v.windows more))
      ∙ sym (λ j. listed L
      (rounds overload_of (whole_next j) (suc (slack (whole_next j) (windows_next j))) (state (windows_next j) more)))
      ∙ sym (rest_is Begun more (share_with L s.share) L (share_back L s.share st_next) refl)

  turn_answered : Round s (room_after s (answered (L, v.moves)))
  turn_answered =
      eq_or_ne v.moves 0
      (λ q. rw q
      (settles L st_next (λ m. rest_now m ∙ ap (listed l) (rounds_last overload_of (whole_in l) (windows_of l) m spare v r q))))
      (λ ne. goes_on L v.moves st_next ne (omega (arith, cost.bounded, slack_next, slack_is s.share l e)) (rest_next ne))

-- a room's own turn
pub own_turn_lem : (s : RoomState) → Says Stands Anything (front_of s.share) → Round s (own_turn s)
own_turn_lem s reads = read (front_of s.share) refl reads
  where
    turned : (o : Outcome (DayList × ℕ)) → round_in s.row.stage s.share ≡ o → Round s (room_after s o) → Round s (own_turn s)
    turned o e turn = rw (own_turn_as s o e) turn

    rounded : (l : DayList) (e : front_of s.share ≡ answered l) (st : Stands l) (t : first_test s.row.stage l ≡ answered tt)
        (u : Outcome Narrowed) → round overload_of (whole_in l) (unmoved (windows_of l)) ≡ u → Round s (own_turn s)
    rounded l e st t (answered v) r =
        turned (answered (list_with l v.windows, v.moves)) (round_is s.row.stage s.share l e t st.formed ∙ ap (listed l) r)
        (turn_answered s l e st t v r)
    rounded l e st t (refused k) r =
        turned (refused k) (round_is s.row.stage s.share l e t st.formed ∙ ap (listed l) r)
        (stops k (λ m. rest_is s.row.stage m s.share l e t
        ∙ ap (listed l) (rounds_stop overload_of (whole_in l) (windows_of l) m (slack (whole_in l) (windows_of l)) k r)))

    tested : (l : DayList) → front_of s.share ≡ answered l → Stands l → (u : Outcome (Unit {0})) → first_test s.row.stage l ≡ u
        → Round s (own_turn s)
    tested l e st (answered x) t = rounded l e st t (round overload_of (whole_in l) (unmoved (windows_of l))) refl
    tested l e st (refused k) t =
        turned (refused k) (overloaded s.row.stage 0 s.share l e k t).0
        (stops k (λ m. (overloaded s.row.stage m s.share l e k t).1))

    read : (u : Outcome DayList) → front_of s.share ≡ u → Says Stands Anything u → Round s (own_turn s)
    read (answered l) e st = tested l e st (first_test s.row.stage l) refl
    read (refused k) e st =
        turned (refused k) (unread s.row.stage 0 s.share k e).0 (stops k (λ m. (unread s.row.stage m s.share k e).1))
