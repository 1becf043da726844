-- One round of a room, case by case.
-- Assumes nothing.
use mathlib.Core.Path.{◌≡◌, refl, ap, ◌∙◌}
use mathlib.Core.List.{List}
use Prim.Native.Nat.{ℕ, ◌+◌, ◌≤◌, ◌<◌, min}
use native.Mathlib.Omega.{arith}
use borrow.Author.Tests.{le-leb, lt-leb}
use lib.ListN.{length}
use Rattle.std.specs.Prelude.{Result, Ok, Err}
use Rattle.base.specs.Outcomes.{Code, answered, refused}
use Rattle.list.specs.Refusals.{code_of, outcome_of}
use Rattle.list.specs.Checks.{WellFormed}
use Rattle.list.specs.declared.types.DayList.{DayList}
use Rattle.list.specs.declared.types.Refusal.{Refusal}
use Rattle.list.proofs.Answered.{not_both}
use Rattle.format.specs.Calls.{Writes}
use Rattle.format.proofs.WriteCases.{list_written}
use Rattle.format.proofs.LongestList.{longest}
use Rattle.jackson.specs.Calls.{test_of, Tests}
use Rattle.narrow.specs.Calls.{narrow_answer_of, MakesRound}
use Rattle.narrow.specs.declared.types.NarrowedList.{NarrowedList}
use Rattle.shares.specs.Shares.{share_bytes, share_with}
use Rattle.shares.specs.Calls.{ReadsFront}
use Rattle.rooms.specs.Rooms.{most_counted, count_on, first_test, round_in, stage_after, row_after, share_after, said_by}
use Rattle.rooms.specs.Internal.{FindsRound, RoundsRoom}
use Rattle.rooms.specs.declared.types.Stage.{Stage}
use Rattle.rooms.specs.declared.types.Stage.TheVariants.{Fresh}
use Rattle.rooms.specs.declared.types.Room.{Room}

-- counting on
module _ (old more : ℕ) where
  pub count_kept : most_counted ≤ old → old ≡ count_on old more
  unfolding count_on
  count_kept h = rw (le-leb most_counted old h)

  pub count_more : old < most_counted → (sum : ℕ) → sum ≡ min (old + more) 4294967295 → min sum most_counted ≡ count_on old more
  unfolding count_on
  count_more h sum is = rw (lt-leb most_counted old h) (omega arith)

-- the overload test of a list that passes the value check, if the room is fresh
pub test_fresh : (l : DayList) (s : Stage) (v : Result (Unit {0}) Refusal) → WellFormed l → s ≡ Fresh → Tests l v
    → outcome_of v ≡ first_test s l
unfolding test_of
test_fresh l s v formed is tests = rw is (tests.outcome ∙ rw formed)

-- the round that a share gives
module _ (stage : Stage) (share : List ℕ) where
  pub round_refused : (a : Result NarrowedList Refusal) (x : Refusal) → a ≡ Err x → refused (code_of x) ≡ round_in stage share
      → FindsRound stage share a
  round_refused a x is e = record { outcome = ap narrow_answer_of is ∙ e; formed = λ v ok. absurd (not_both ok is) }

  pub round_unread : {x : Refusal} → ReadsFront share (Err x) → refused (code_of x) ≡ round_in stage share
  unfolding round_in
  round_unread front = rw (← front.outcome) refl

  module _ {l : DayList} (front : ReadsFront share (Ok l)) where
    pub round_overloaded : {k : Code} → refused k ≡ first_test stage l → refused k ≡ round_in stage share
    unfolding round_in
    round_overloaded e = rw (← front.outcome, ← e) refl

    pub round_found : answered tt ≡ first_test stage l → (a : Result NarrowedList Refusal) → MakesRound l a → FindsRound stage share a
    unfolding round_in
    round_found e a makes =
        record { outcome = rw (← front.outcome, ← e) makes.answers; formed = λ v ok. (makes.holds.keeps v ok).formed }

-- a room with this row and a share that held old
module _ (r : Room) (old : List ℕ) where
  module _ {v : NarrowedList} (found : FindsRound r.stage old (Ok v)) where
    pub room_written : share_bytes ≤ length old → {w : Result ℕ Refusal} {new : List ℕ} → Writes v.list old w new
        → new ≡ share_with v.list old
    unfolding share_with
    room_written long writes =
        let formed = found.formed v refl in
        writes.buffer ∙ rw (list_written v.list (length old) formed (omega (arith, longest v.list formed)))

    pub room_done : {stage : Stage} {rounds moves : ℕ} {new : List ℕ} → new ≡ share_with v.list old → stage ≡ stage_after v.moves
        → rounds ≡ count_on r.rounds 1 → moves ≡ count_on r.moves v.moves
        → RoundsRoom r old (record { row = record { stage = stage; rounds = rounds; moves = moves }; round = Ok tt }) new
    room_done stored stage rounds moves =
        let e = found.outcome in
        record {
          row = (λ i. record { stage = stage i; rounds = rounds i; moves = moves i }) ∙ ap (row_after r) e;
          share = stored ∙ ap (share_after old) e;
          said = ap said_by e;
        }
