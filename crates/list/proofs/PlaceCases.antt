-- Marking the whole entries of a list.
-- Assumes nothing.
use mathlib.Core.Path.{◌≡◌, refl, fun_ext}
use mathlib.Core.Bool.{Bool, false}
use mathlib.Core.List.{List}
use Prim.Native.Nat.{ℕ, ◌+◌, ◌<◌, ◌≤◌, min}
use native.Mathlib.Omega.{arith}
use lib.ListN.{length, get_or, set, take, replicate}
use Rattle.list.specs.DayLists.{blank, entries_of, is_whole, whole_in, marked}
use Rattle.list.specs.declared.types.Entry.{Entry}
use Rattle.list.specs.declared.types.DayList.{DayList}
use Rattle.list.proofs.Columns.{Column, column_start, column_next, all_taken}

-- the whole ones of the first i entries are marked, of n
pub record Marked (es : List Entry) (n : ℕ) (marks : List Bool) (i : ℕ) : Type 0 where
  pub held : n ≤ 64
  pub passed : i ≤ n
  pub column : Column false (λ (e : Entry). is_whole e.kind) es marks i

module _ (es : List Entry) (n : ℕ) where
  pub mark_start : n ≤ 64 → Marked es n (replicate 64 false) 0
  mark_start h = record { held = h; passed = omega arith; column = column_start false _ es refl }

  pub mark_next : (marks : List Bool) (i : ℕ) (b : Bool) → Marked es n marks i → i < n → b ≡ is_whole (get_or es i blank).kind
      → Marked es n (set marks i b) (i + 1)
  mark_next marks i b so h e =
      record {
        held = so.held;
        passed = omega (arith, h);
        column = column_next false _ es marks i b (omega (arith, h, so.held)) so.column e;
      }

-- all are marked
pub mark_done : (l : DayList) → length l.entries ≡ 64 → (marks : List Bool) (n i : ℕ) → n ≡ min l.n 64
    → Marked l.entries n marks i → n ≤ i → marked marks ≡ whole_in l
mark_done l long marks n i e so h =
    let z : i ≡ min l.n 64 = omega (arith, e, so.passed) in
    let taken : take i l.entries ≡ entries_of l = rw z (all_taken l long) in
    fun_ext (λ j. rw (← taken) (so.column.is j))
