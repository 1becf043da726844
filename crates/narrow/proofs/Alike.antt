-- Lists that are narrowed alike: those that differ in their opening minute, serials and seals alone, if the value check answers both alike,
-- and so those equal by the documents' rule; and what travels along into the list answered.
-- Assumes nothing.
use mathlib.Core.Path.{◌≡◌, refl, sym, ap, ◌∙◌}
use mathlib.Core.List.{List, [], ◌∷◌, map, map-map}
use Prim.Native.Nat.{ℕ, zero, suc, ◌+◌, ◌<◌}
use native.Mathlib.Omega.{arith}
use lib.ListN.{length, get_or, get_or-map}
use lib.Seq.{take-append_seam}
use Rattle.base.specs.Outcomes.{Outcome, answered, and_then}
use Rattle.list.specs.DayLists.{entries_of, blank, day_list, SameList, is_whole, whole_in}
use Rattle.list.specs.Checks.{check_of}
use Rattle.list.specs.declared.types.Entry.{Entry}
use Rattle.list.specs.declared.types.Frame.{Frame}
use Rattle.list.specs.declared.types.DayList.{DayList}
use Rattle.list.proofs.Alike.{same_checked}
use Rattle.windows.specs.Windows.{Windows, plain, SameWindows}
use Rattle.windows.specs.Intervals.{overload_of}
use Rattle.windows.proofs.AlikeWindows.{alike_windows}
use Rattle.narrow.specs.Rounds.{Narrowed, unmoved, round, narrowing}
use Rattle.narrow.specs.Calls.{bare, SameTimes, entry_with, entries_with, list_with, settle_of, round_of, listed}

-- lists that are equal have the same numbers and kinds
pub same_times : {a b : DayList} → SameList a b → SameTimes a b
same_times s = record { h = ap (λ (f : Frame). f.h) s.frame; n = s.n; entries = ap (map bare) s.entries }

-- lists that differ so have the same numbers, so that jackson's Alike speaks of them
pub times_windows : {a b : DayList} → SameTimes a b → SameWindows a b
times_windows {a} {b} s =
    record {
      h = s.h;
      n = s.n;
      entries = sym (map-map plain bare (entries_of a)) ∙ ap (map plain) s.entries ∙ map-map plain bare (entries_of b);
    }

-- windows, moves and refusals do not depend on opening minutes, serials and seals, nor on what stands from n on, if the value check answers
-- both lists alike
module _ {a b : DayList} (s : SameTimes a b) where
  pub times_whole : whole_in a ≡ whole_in b
  times_whole = λ j i. is_whole (bares i j).kind
    where
      bares : (i : ℕ) → bare (get_or (entries_of a) i blank) ≡ bare (get_or (entries_of b) i blank)
      bares i =
          sym (get_or-map bare (entries_of a) i blank)
          ∙ ap (λ (es : List Entry). get_or es i blank) s.entries
          ∙ get_or-map bare (entries_of b) i blank

module _ {a b : DayList} (s : SameTimes a b) (checked : check_of a ≡ check_of b) where
  pub times_settled : settle_of a ≡ settle_of b
  unfolding settle_of
  times_settled =
      let w = times_windows s in
      λ j. and_then (checked j) (λ _. narrowing overload_of (times_whole s j) (alike_windows w j))

  pub times_round : round_of a ≡ round_of b
  unfolding round_of
  times_round =
      let w = times_windows s in
      λ j. and_then (checked j) (λ _. round overload_of (times_whole s j) (unmoved (alike_windows w j)))

-- lists that are equal get equal answers
module _ {a b : DayList} (s : SameList a b) where
  same_with : (w : Windows) → list_with a w ≡ list_with b w
  unfolding list_with
  same_with w = λ j. day_list (s.frame j) (entries_with w 0 (s.entries j))

  pub same_listed : {o u : Outcome Narrowed} → o ≡ u → listed a o ≡ listed b u
  same_listed e = λ j. and_then (e j) (λ v. answered (same_with v.windows j, v.moves))

  pub same_settled : listed a (settle_of a) ≡ listed b (settle_of b)
  same_settled = same_listed (times_settled (same_times s) (same_checked s))

  pub same_round : listed a (round_of a) ≡ listed b (round_of b)
  same_round = same_listed (times_round (same_times s) (same_checked s))

-- the list with other windows: at each place the serial, seal, p and kind that stood there, and the window's r and d
module _ (w : Windows) where
  pub with_length : (i : ℕ) (es : List Entry) → length (entries_with w i es) ≡ length es
  unfolding entries_with
  with_length i [] = refl
  with_length i (e ∷ es) = ap suc (with_length (i + 1) es)

  with_at : (i : ℕ) (es : List Entry) (j : ℕ) (k : ℕ) → k ≡ i + j → j < length es
      → get_or (entries_with w i es) j blank ≡ entry_with (get_or es j blank) (w.r k) (w.d k)
  unfolding entries_with
  with_at i [] j k z h = absurd (omega arith)
  with_at i (e ∷ es) zero k z h = let q : k ≡ i = omega arith in rw q refl
  with_at i (e ∷ es) (suc j) k z h = with_at (i + 1) es j k (omega arith) (omega arith)

module _ (l : DayList) (w : Windows) where
  pub listed_entries : entries_of (list_with l w) ≡ entries_with w 0 (entries_of l)
  unfolding list_with
  listed_entries = take-append_seam (entries_with w 0 (entries_of l)) _

  pub listed_entry : (i : ℕ) → i < length (entries_of l)
      → get_or (entries_of (list_with l w)) i blank ≡ entry_with (get_or (entries_of l) i blank) (w.r i) (w.d i)
  listed_entry i h = rw listed_entries (with_at w 0 (entries_of l) i i (omega arith) h)

  pub listed_count : length (entries_of (list_with l w)) ≡ length (entries_of l)
  listed_count = rw listed_entries (with_length w 0 (entries_of l))
