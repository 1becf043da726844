-- A turn over rows held by value, case by case.
-- Assumes nothing.
use mathlib.Core.Path.{◌≡◌, refl, sym, ap, ◌∙◌}
use mathlib.Core.Bool.{Bool, true, false}
use mathlib.Core.List.{List, [], ◌∷◌, ◌++◌}
use Prim.Native.Nat.{ℕ, zero, suc, ◌+◌, ◌*◌, ◌-◌, ◌<◌, ◌≤◌}
use native.Mathlib.Omega.{arith}
use borrow.Author.Tests.{lt-ltb, le-ltb, ne_eqb, eq-eqb}
use lib.ListN.{length, get_or, take, drop}
use lib.Seq.{drop-drop}
use Rattle.std.specs.Prelude.{Some, None, Ok, Err}
use Rattle.base.specs.Outcomes.{code, Outcome, answered, refused}
use Rattle.list.specs.Machine.{Bytes}
use Rattle.list.specs.Refusals.{code_of}
use Rattle.list.specs.declared.types.DayList.{DayList}
use Rattle.list.specs.declared.types.Refusal.{Refusal}
use Rattle.list.proofs.Answered.{the_ok, not_both}
use Rattle.shares.specs.Shares.{share_bytes}
use Rattle.rooms.specs.Cycles.{number_after, number_used, next_from, next_unfinished}
use Rattle.rooms.specs.Rooms.{round_in, row_after, said_by}
use Rattle.rooms.specs.Turns.{most_rooms, no_row, share_of, took, none_unfinished, answer_of}
use Rattle.rooms.specs.Internal.{RoundsRoom, unfinished_in, FindsNext, round_at, answer_held, TakesTurn}
use Rattle.rooms.specs.declared.types.Room.{Room}
use Rattle.rooms.specs.declared.types.RoomAnswer.{RoomAnswer}
use Rattle.rooms.specs.declared.types.Turn.TheVariants.{NoneUnfinished, Took}

-- numbers
pub after_more : (n k : ℕ) → k + 1 < n → k + 1 ≡ number_after n k
unfolding number_after
after_more n k h = let z : suc k < n = omega arith in rw (lt-ltb (suc k) n z) (omega arith)

pub after_zero : (n k : ℕ) → n ≤ k + 1 → ◌≡◌ {A = ℕ} 0 (number_after n k)
unfolding number_after
after_zero n k h = let z : n ≤ suc k = omega arith in rw (le-ltb (suc k) n z)

pub used_same : (n number : ℕ) → number < n → number ≡ number_used n number
unfolding number_used
used_same n number h = rw (lt-ltb number n h)

pub used_zero : (n number : ℕ) → n ≤ number → ◌≡◌ {A = ℕ} 0 (number_used n number)
unfolding number_used
used_zero n number h = rw (le-ltb number n h)

-- the search for the next unfinished room
module _ (unfinished : ℕ → Bool) (n : ℕ) where
  pub search_found : (left k : ℕ) → 0 < left → unfinished k ≡ true → next_from unfinished n left k ≡ k
  unfolding next_from
  search_found zero k h e = absurd (omega arith)
  search_found (suc left) k h e = rw e

  pub search_passed : (left k to : ℕ) → 0 < left → unfinished k ≡ false → to ≡ number_after n k
      → next_from unfinished n left k ≡ next_from unfinished n (left - 1) to
  unfolding next_from
  search_passed zero k to h e q = absurd (omega arith)
  search_passed (suc left) k to h e q = let z : left ≡ suc left - 1 = omega arith in rw (e, ← z, q)

  pub search_ended : (left k : ℕ) → left ≤ 0 → next_from unfinished n left k ≡ n
  unfolding next_from
  search_ended zero k h = refl
  search_ended (suc left) k h = absurd (omega arith)

  pub search_starts : (number k : ℕ) → k ≡ number_used n number → next_unfinished unfinished n number ≡ next_from unfinished n n k
  unfolding next_unfinished
  search_starts number k e = ap (next_from unfinished n n) (sym e)

-- the answer
module _ (rows : List Room) (n number : ℕ) (lists : List ℕ) where
  pub answer_none : n ≡ 0 → answer_held rows n number lists ≡ refused (code 19 (n ∷ []))
  unfolding answer_held answer_of
  answer_none e = rw (eq-eqb n 0 e)

  module _ (some : n ≡ 0 → ⊥) where
    pub answer_many : most_rooms < n → answer_held rows n number lists ≡ refused (code 19 (n ∷ []))
    unfolding answer_held answer_of
    answer_many h = rw (ne_eqb n 0 some, lt-ltb most_rooms n h)

    module _ (few : n ≤ most_rooms) where
      pub answer_short : length lists < n * share_bytes → answer_held rows n number lists ≡ refused (code 12 (n * share_bytes ∷ []))
      unfolding answer_held answer_of
      answer_short h = rw (ne_eqb n 0 some, le-ltb most_rooms n few, lt-ltb (length lists) (n * share_bytes) h)

      module _ (long : n * share_bytes ≤ length lists) where
        pub answer_took : (k : ℕ) → FindsNext (unfinished_in rows) n number (Some k)
            → answer_held rows n number lists ≡ answered (took k (said_by (round_at rows k lists)) (number_after n k))
        unfolding answer_held answer_of
        answer_took k (h, is) =
            rw (ne_eqb n 0 some, le-ltb most_rooms n few, le-ltb (length lists) (n * share_bytes) long, ← is, lt-ltb k n h)

        pub answer_nothing : FindsNext (unfinished_in rows) n number None
            → answer_held rows n number lists ≡ answered (none_unfinished (number_used n number))
        unfolding answer_held answer_of
        answer_nothing is =
            let past : n ≤ n = omega arith in
            rw (ne_eqb n 0 some, le-ltb most_rooms n few, le-ltb (length lists) (n * share_bytes) long, ← is, le-ltb n n past)

  -- what is answered
  module _ (b : Bytes lists) where
    pub takes_refused : (x : Refusal) → answer_held rows n number lists ≡ refused (code_of x)
        → TakesTurn rows n number lists (Err x) lists
    takes_refused x e = record { answer = sym e; stored = λ t ok. absurd (not_both {r = Err x} ok refl); lists = rw e; bytes = b }

    pub takes_nothing : (used : ℕ) → answer_held rows n number lists ≡ answered (none_unfinished (number_used n number))
        → used ≡ number_used n number
        → TakesTurn rows n number lists (Ok (record { turn = NoneUnfinished used; stored = None })) lists
    takes_nothing used e z =
        record { answer = rw (e, z); stored = λ t ok. rw (e, ← the_ok ok) refl; lists = rw e; bytes = b }

    module _ (k : ℕ) (e : answer_held rows n number lists ≡ answered (took k (said_by (round_at rows k lists)) (number_after n k))) where
      pub takes_room : (part new : List ℕ) (out : RoomAnswer) (next : ℕ) → RoundsRoom (get_or rows k no_row) part out new
          → part ≡ share_of k lists → next ≡ number_after n k
          → TakesTurn rows n number lists (Ok (record { turn = Took k out.round next; stored = Some (k, out.row) }))
          (take (k * share_bytes) lists ++ (new ++ drop ((k * share_bytes + share_bytes) - k * share_bytes) (drop (k * share_bytes) lists)))
      takes_room part new out next made is z =
          let size : (k * share_bytes + share_bytes) - k * share_bytes ≡ share_bytes = omega arith in
          let at = k * share_bytes in
          let rest : drop ((at + share_bytes) - at) (drop at lists) ≡ drop (at + share_bytes) lists =
          ap (λ (y : ℕ). drop y (drop at lists)) size ∙ drop-drop share_bytes at lists in
          let row = made.row ∙ ap (λ (p : List ℕ). row_after (get_or rows k no_row) (round_on p)) is in
          record {
            answer = (λ i. answered (took k ((made.said ∙ ap (λ (p : List ℕ). said_by (round_on p)) is) i) (z i))) ∙ sym e;
            stored = λ t ok. rw (e, ← the_ok ok) (ap (λ (r : Room). Some (k, r)) row);
            lists = rw (e, rest, made.share, is);
            bytes = b;
          }
        where
          round_on : List ℕ → Outcome (DayList × ℕ)
          round_on p = round_in (get_or rows k no_row).stage p

-- the share, as code lends it
pub share_lent : (lists : List ℕ) (k : ℕ)
    → take ((k * share_bytes + share_bytes) - k * share_bytes) (drop (k * share_bytes) lists) ≡ share_of k lists
share_lent lists k = let z : (k * share_bytes + share_bytes) - k * share_bytes ≡ share_bytes = omega arith in rw z
