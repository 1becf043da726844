-- The list with other windows, as code makes it.
-- Assumes nothing.
use mathlib.Core.Path.{◌≡◌, refl, sym, ap, ◌∙◌}
use mathlib.Core.List.{List, [], ◌∷◌, ◌++◌}
use Prim.Native.Nat.{ℕ, suc, ◌+◌, ◌-◌, ◌<◌, ◌≤◌, min}
use native.Mathlib.Numerals.{add-one}
use native.Mathlib.Omega.{arith}
use lib.ListN.{length, get_or, take, drop, set, replicate, length-set}
use lib.Seq.{length-take-le, take-suc, take-suc-set}
use Rattle.list.specs.DayLists.{entries_of, blank}
use Rattle.list.specs.declared.types.Entry.{Entry}
use Rattle.list.specs.declared.types.DayList.{DayList}
use Rattle.list.proofs.Filling.{blank_after, filled_list}
use Rattle.list.proofs.Columns.{all_taken}
use Rattle.windows.specs.Windows.{Windows}
use Rattle.narrow.specs.Calls.{entry_with, entries_with, list_with}
use Rattle.narrow.proofs.Alike.{with_length}

module _ (w : Windows) where
  -- one entry more
  with_one : (i : ℕ) (es : List Entry) (e : Entry) (j : ℕ) → j ≡ i + length es
      → entries_with w i (es ++ (e ∷ [])) ≡ entries_with w i es ++ (entry_with e (w.r j) (w.d j) ∷ [])
  unfolding entries_with
  with_one i [] e j z = let q : j ≡ i = omega arith in rw q
  with_one i (x ∷ es) e j z = ap (λ (l : List Entry). entry_with x (w.r i) (w.d i) ∷ l) (with_one (i + 1) es e j (omega arith))

-- the first i of n entries stand with their windows, and blank ones after them
pub record Filled (l : DayList) (w : Windows) (n : ℕ) (entries : List Entry) (i : ℕ) : Type 0 where
  pub room : n ≤ 64
  pub passed : i ≤ n
  pub long : length entries ≡ 64
  pub done : take i entries ≡ entries_with w 0 (take i l.entries)
  pub unused : drop i entries ≡ replicate (64 - i) blank

module _ (l : DayList) (w : Windows) (n : ℕ) where
  pub filled_none : (entries : List Entry) → n ≤ 64 → entries ≡ replicate 64 blank → Filled l w n entries 0
  unfolding entries_with
  filled_none entries room e = rw e (record { room = room; passed = omega arith; long = refl; done = refl; unused = refl })

  module _ (long : length l.entries ≡ 64) (entries : List Entry) (i : ℕ) (so : Filled l w n entries i) where
    pub filled_next : (e : Entry) → i < n → e ≡ entry_with (get_or l.entries i blank) (w.r i) (w.d i)
        → Filled l w n (set entries i e) (i + 1)
    filled_next e h is =
        record {
          room = so.room;
          passed = omega (arith, h);
          long = length-set entries i e ∙ so.long;
          done = rw add-one (take-suc-set entries i e (omega (arith, so.long, so.room)) ∙ one);
          unused = blank_after entries i e (omega (arith, so.room)) so.unused;
        }
      where
        one : take i entries ++ (e ∷ []) ≡ entries_with w 0 (take (suc i) l.entries)
        one =
            let k : i ≡ 0 + length (take i l.entries) = omega (arith, length-take-le i l.entries (omega (arith, long, so.room))) in
            rw (is, take-suc l.entries i blank (omega (arith, long, so.room)), so.done)
            (sym (with_one w 0 (take i l.entries) (get_or l.entries i blank) i k))

    pub filled_all : n ≡ min l.n 64 → n ≤ i → record { frame = l.frame; n = n; entries = entries } ≡ list_with l w
    unfolding list_with
    filled_all e h =
        let z : i ≡ n = omega (arith, so.passed) in
        let es = entries_with w 0 (entries_of l) in
        let taken : take n l.entries ≡ entries_of l = rw e (all_taken l long) in
        let size : length (take n l.entries) ≡ n = length-take-le n l.entries (omega (arith, long, so.room)) in
        let count : length es ≡ n = with_length w 0 (entries_of l) ∙ (rw taken at size) in
        filled_list l.frame n es entries count (rw (z, taken) at so.done) (rw z at so.unused)
