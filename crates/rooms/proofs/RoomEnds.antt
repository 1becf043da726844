-- A room by its own turns alone: it is finished after one turn more than there are minutes to cut, and one that was fresh ends with the
-- answer that it would have alone.
-- Assumes nothing.
use mathlib.Core.Path.{◌≡◌, refl, sym, ap, ◌∙◌, subst}
use mathlib.Core.Bool.{Bool, true, false, cond}
use mathlib.Core.List.{List}
use Prim.Native.Nat.{ℕ, zero, suc, ◌+◌, ◌-◌, ◌<◌, ◌≤◌}
use native.Mathlib.Omega.{arith}
use borrow.Author.Tests.{ne_eqb}
use Rattle.base.specs.Outcomes.{Outcome, answered, refused, and_then}
use Rattle.base.proofs.Inversion.{Says, Anything}
use Rattle.base.proofs.Sums.{sum_most}
use Rattle.list.specs.Machine.{Bytes}
use Rattle.list.specs.DayLists.{whole_in}
use Rattle.list.specs.declared.types.DayList.{DayList}
use Rattle.list.proofs.Sound.{sound_list}
use Rattle.windows.specs.Windows.{windows_of}
use Rattle.windows.specs.Intervals.{overload_of}
use Rattle.windows.proofs.FormedLists.{list_few, list_formed}
use Rattle.narrow.specs.Rounds.{Narrowed, narrowing}
use Rattle.narrow.specs.Calls.{settle_of, listed}
use Rattle.shares.specs.Shares.{front_of}
use Rattle.shares.proofs.StandingLists.{Stands, share_back, share_form}
use Rattle.shares.proofs.FrontLaws.{front_stands}
use Rattle.rooms.specs.Cycles.{alone}
use Rattle.rooms.specs.Rooms.{is_unfinished, most_counted, RoomState, stage_after, own_turn, unfinished, answer_alone, slack_read, slack_of}
use Rattle.rooms.specs.Runs.{FreshRoom, FewCounts, Ends}
use Rattle.rooms.specs.declared.types.Stage.TheVariants.{Fresh, Begun}
use Rattle.rooms.proofs.CycleLaws.{alone_next, alone_finished, alone_add}
use Rattle.rooms.proofs.RoomRounds.{count_below, rest_read, rest_of, Round, stops, settles, goes_on, own_turn_lem}

-- what stands in the share, if it reads
abbrev pub Standing : RoomState → Type 0
Standing s = Says Stands Anything (front_of s.share)

pub reads_kept : (s x : RoomState) → Round s x → Standing s → Standing x
reads_kept s x (stops k rest) reads = reads
reads_kept s x (settles l st rest) reads = rw (share_back l s.share st) st
reads_kept s x (goes_on l k st ne less rest) reads = rw (share_back l s.share st) st

-- a round that moves is not the last
begun : (k : ℕ) → (k ≡ 0 → ⊥) → stage_after k ≡ Begun
begun k ne = rw (ne_eqb k 0 ne)

-- whatever the row: a turn finishes the room, or fewer minutes can be cut
ends_or_less : {G : Type 0} (s x : RoomState) → Round s x → (unfinished x ≡ false → G) → (slack_of x.share < slack_of s.share → G) → G
ends_or_less s x (stops k rest) f g = f refl
ends_or_less s x (settles l st rest) f g = f refl
ends_or_less s x (goes_on l k st ne less rest) f g = g (omega (arith, less, ne))

-- so one turn more than there are minutes to cut finishes it
finishes : (k : ℕ) (s : RoomState) → (b : Bool) → unfinished s ≡ b → Standing s → slack_of s.share < k
    → unfinished (alone unfinished own_turn k s) ≡ false
finishes zero s b is reads enough = absurd (omega arith)
finishes (suc k) s false is reads enough = ap unfinished (alone_finished unfinished own_turn (suc k) s is) ∙ is
finishes (suc k) s true is reads enough =
    ap unfinished (alone_next unfinished own_turn k s is)
    ∙ ends_or_less s (own_turn s) (own_turn_lem s reads)
    (λ e. ap unfinished (alone_finished unfinished own_turn k (own_turn s) e) ∙ e)
    (λ less. finishes k (own_turn s) (unfinished (own_turn s)) refl (reads_kept s (own_turn s) (own_turn_lem s reads) reads)
    (omega (arith, less)))

-- for every room, whatever its row
pub room_finishes : (s : RoomState) → Bytes s.share → unfinished (alone unfinished own_turn (suc (slack_of s.share)) s) ≡ false
room_finishes s b = finishes (suc (slack_of s.share)) s (unfinished s) refl (front_stands s.share b) (omega arith)

-- a room that is not finished, whose rounds lead to o, and whose counts stay below 100,000
record Runs (o : Outcome (DayList × ℕ)) (s : RoomState) : Type 0 where
  goes : unfinished s ≡ true
  reads : Standing s
  rest : rest_of s.row.stage s.row.moves s.share ≡ o
  moves : s.row.moves + slack_of s.share < most_counted
  rounds : s.row.rounds + slack_of s.share + 1 < most_counted

runs_few : (o : Outcome (DayList × ℕ)) (s : RoomState) → Runs o s → FewCounts s
runs_few o s runs = record { moves = omega (arith, runs.moves); rounds = omega (arith, runs.rounds) }

-- its own turn: it ends with o, or goes on to it
turn_leads : {G : Type 0} (o : Outcome (DayList × ℕ)) (s x : RoomState) → Round s x → Runs o s
    → (Ends o x → FewCounts x → G)
    → (Runs o x → slack_of x.share < slack_of s.share → G)
    → G
turn_leads o s x (stops k rest) runs f g =
    let is : o ≡ refused k = sym runs.rest ∙ rest s.row.moves in
    f (rw is (record { stage = refl; said = refl })) (record { moves = omega (arith, runs.moves); rounds = omega (arith, runs.rounds) })
turn_leads o s x (settles l st rest) runs f g =
    let m = s.row.moves in
    let is : o ≡ answered (l, m) = sym runs.rest ∙ rest m in
    let none = count_below m 0 (omega (arith, runs.moves)) in
    let one = count_below s.row.rounds 1 (omega (arith, runs.rounds)) in
    f
    (rw is
    (record {
      stage = refl;
      list = share_back l s.share st;
      form = share_form l s.share;
      moves = none ∙ omega arith;
      said = refl;
    }))
    (record { moves = omega (arith, none, runs.moves); rounds = omega (arith, one, runs.rounds) })
turn_leads o s x (goes_on l k st ne less rest) runs f g =
    let m = s.row.moves in
    let some = count_below m k (omega (arith, less, runs.moves)) in
    let one = count_below s.row.rounds 1 (omega (arith, runs.rounds)) in
    g
    (record {
      goes = ap is_unfinished (begun k ne);
      reads = rw (share_back l s.share st) st;
      rest = rw (begun k ne, some) (sym (rest m) ∙ runs.rest);
      moves = omega (arith, some, less, runs.moves);
      rounds = omega (arith, one, less, ne, runs.rounds);
    })
    (omega (arith, less, ne))

ends_finished : (o : Outcome (DayList × ℕ)) (s : RoomState) → Ends o s → unfinished s ≡ false
ends_finished (answered x) s e = ap is_unfinished e.stage
ends_finished (refused k) s e = ap is_unfinished e.stage

runs_end : (k : ℕ) (o : Outcome (DayList × ℕ)) (s : RoomState) → Runs o s → slack_of s.share < k → Ends o (alone unfinished own_turn k s)
runs_end zero o s runs enough = absurd (omega arith)
runs_end (suc k) o s runs enough =
    rw (alone_next unfinished own_turn k s runs.goes)
    (turn_leads o s (own_turn s) (own_turn_lem s runs.reads) runs
    (λ e few. rw (alone_finished unfinished own_turn k (own_turn s) (ends_finished o (own_turn s) e)) e)
    (λ again less. runs_end k o (own_turn s) again (omega (arith, less))))

-- at every time its counts are below 100,000
runs_count : (k : ℕ) (o : Outcome (DayList × ℕ)) (s : RoomState) → Runs o s → FewCounts (alone unfinished own_turn k s)
unfolding alone
runs_count zero o s runs = runs_few o s runs
runs_count (suc k) o s runs =
    rw runs.goes
    (turn_leads o s (own_turn s) (own_turn_lem s runs.reads) runs
    (λ e few. rw (alone_finished unfinished own_turn k (own_turn s) (ends_finished o (own_turn s) e)) few)
    (λ again less. runs_count k o (own_turn s) again))

-- a list has at most 64 times 1,440 minutes to cut
slack_most : (share : List ℕ) → Says Stands Anything (front_of share) → slack_of share ≤ 92160
unfolding slack_of
slack_most share = go (front_of share)
  where
    each : (l : DayList) → Stands l → (i : ℕ) → i < (windows_of l).n
        → cond (whole_in l i) ((windows_of l).d i - ((windows_of l).r i + (windows_of l).p i)) 0 ≤ 1440
    each l st i h = pick (whole_in l i)
      where
        pick : (t : Bool) → cond t ((windows_of l).d i - ((windows_of l).r i + (windows_of l).p i)) 0 ≤ 1440
        pick true = omega (arith, (list_formed l st.formed).in_day i h, (sound_list l st.formed).header.one_day)
        pick false = omega arith

    go : (u : Outcome DayList) → Says Stands Anything u → slack_read u ≤ 92160
    go (answered l) st = omega (arith, sum_most (windows_of l).n 1440 _ (each l st), list_few l st.formed)
    go (refused k) st = omega arith

-- the rounds of a fresh room lead to the answer that it would have alone
rest_alone : (share : List ℕ) → Says Stands Anything (front_of share) → rest_of Fresh 0 share ≡ answer_alone share
unfolding rest_of rest_read answer_alone settle_of narrowing
rest_alone share = go (front_of share)
  where
    after_test : (l : DayList) (o : Outcome (Unit {0})) (u : Outcome Narrowed)
        → and_then o (λ _. listed l u) ≡ listed l (and_then o (λ _. u))
    after_test l (answered x) u = refl
    after_test l (refused k) u = refl

    go : (u : Outcome DayList) → Says Stands Anything u → and_then u (rest_read Fresh 0) ≡ and_then u (λ l. listed l (settle_of l))
    go (answered l) st = rw st.formed (after_test l (overload_of (windows_of l)) _)
    go (refused k) st = refl

module _ (s : RoomState) (fresh : FreshRoom s) (b : Bytes s.share) where
  fresh_runs : Runs (answer_alone s.share) s
  fresh_runs =
      let reads = front_stands s.share b in
      let most = slack_most s.share reads in
      record {
        goes = ap is_unfinished fresh.stage;
        reads = reads;
        rest = rw (fresh.stage, fresh.moves) (rest_alone s.share reads);
        moves = omega (arith, most, fresh.moves);
        rounds = omega (arith, most, fresh.rounds);
      }

  -- "ends with the answer it would have alone, and its counts stay below 100,000"
  pub fresh_ends : Ends (answer_alone s.share) (alone unfinished own_turn (suc (slack_of s.share)) s)
  fresh_ends = runs_end (suc (slack_of s.share)) (answer_alone s.share) s fresh_runs (omega arith)

  pub fresh_counts : (k : ℕ) → FewCounts (alone unfinished own_turn k s)
  fresh_counts k = runs_count k (answer_alone s.share) s fresh_runs

  -- whenever it is finished
  pub fresh_finished : (k : ℕ) → unfinished (alone unfinished own_turn k s) ≡ false
      → Ends (answer_alone s.share) (alone unfinished own_turn k s)
  fresh_finished k done =
      let more = suc (slack_of s.share) in
      subst (Ends (answer_alone s.share))
      (alone_add unfinished own_turn k more s ∙ alone_finished unfinished own_turn more (alone unfinished own_turn k s) done)
      (runs_end (k + more) (answer_alone s.share) s fresh_runs (omega arith))
