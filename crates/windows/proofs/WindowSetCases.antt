-- Copying the windows of a list into arrays.
-- Assumes nothing.
use mathlib.Core.Path.{◌≡◌, refl, sym, ap, ◌∙◌, fun_ext}
use mathlib.Core.List.{List}
use Prim.Native.Nat.{ℕ, ◌+◌, ◌<◌, ◌≤◌, min}
use native.Mathlib.Omega.{arith}
use lib.ListN.{length, get_or, set, take, replicate, length-replicate}
use lib.Seq.{take_all}
use Rattle.list.specs.DayLists.{blank, entries_of, empty_list}
use Rattle.list.specs.declared.types.Entry.{Entry}
use Rattle.list.specs.declared.types.DayList.{DayList}
use Rattle.windows.specs.Windows.{Windows, windows_of, windows_in}
use Rattle.windows.specs.declared.types.WindowSet.{WindowSet}
use Rattle.windows.specs.Calls.{Holds}
use Rattle.list.proofs.Columns.{Column, column_start, column_next, all_taken, held_count}

-- the windows of the first i entries are copied
pub record Copied (es : List Entry) (s : WindowSet) (i : ℕ) : Type 0 where
  pub column_r : Column 0 (λ (e : Entry). e.r) es s.r i
  pub column_d : Column 0 (λ (e : Entry). e.d) es s.d i
  pub column_p : Column 0 (λ (e : Entry). e.p) es s.p i

module _ (es : List Entry) where
  pub copy_start : (s : WindowSet) (h n : ℕ) → length s.r ≡ 64 → length s.d ≡ 64 → length s.p ≡ 64 → Holds empty_list s
      → Copied es (record s { h = h; n = n }) 0
  copy_start s h n r d p so =
      record {
        column_r = record { long = r; is = λ j. ap (λ (w : Windows). w.r j) so.windows };
        column_d = record { long = d; is = λ j. ap (λ (w : Windows). w.d j) so.windows };
        column_p = record { long = p; is = λ j. ap (λ (w : Windows). w.p j) so.windows };
      }

  pub copy_next : (s : WindowSet) (i : ℕ) (e : Entry) → Copied es s i → i < 64 → e ≡ get_or es i blank
      → Copied es (record s { r = set s.r i e.r; d = set s.d i e.d; p = set s.p i e.p }) (i + 1)
  copy_next s i e so h is =
      record {
        column_r = column_next 0 (λ (e : Entry). e.r) es s.r i _ h so.column_r (ap (λ (e : Entry). e.r) is);
        column_d = column_next 0 (λ (e : Entry). e.d) es s.d i _ h so.column_d (ap (λ (e : Entry). e.d) is);
        column_p = column_next 0 (λ (e : Entry). e.p) es s.p i _ h so.column_p (ap (λ (e : Entry). e.p) is);
      }

-- all are copied: the arrays hold the list's windows
pub copy_done : (l : DayList) (s : WindowSet) (n i : ℕ) → length l.entries ≡ 64 → n ≡ min l.n 64 → s.h ≡ l.frame.h → s.n ≡ l.n
    → Copied (take n l.entries) s i → length (take n l.entries) ≤ i → Holds l s
copy_done l s n i long e same_h same_n so end =
    let taken : take i (take n l.entries) ≡ entries_of l = take_all i (take n l.entries) end ∙ rw e (all_taken l long) in
    record {
      windows =
          λ k.
          record {
            h = same_h k;
            n = (ap (λ (z : ℕ). min z 64) same_n ∙ sym (held_count l long (min l.n 64) refl)) k;
            r = fun_ext {f = (windows_in s).r} {g = (windows_of l).r} (λ j. rw (← taken) (so.column_r.is j)) k;
            d = fun_ext {f = (windows_in s).d} {g = (windows_of l).d} (λ j. rw (← taken) (so.column_d.is j)) k;
            p = fun_ext {f = (windows_in s).p} {g = (windows_of l).p} (λ j. rw (← taken) (so.column_p.is j)) k;
          };
      n = same_n;
    }

-- the empty list's windows
pub copy_none : (r d p : List ℕ) → r ≡ replicate 64 0 → d ≡ replicate 64 0 → p ≡ replicate 64 0
    → Holds empty_list (record { h = 0; n = 0; r = r; d = d; p = p })
copy_none r d p x y z =
    rw (x, y, z)
    (copy_done empty_list _ 0 0 (length-replicate {A = Entry} 64 blank) refl refl refl
    (record { column_r = column_start 0 (λ (e : Entry). e.r) _ refl; column_d = column_start 0 (λ (e : Entry). e.d) _ refl; column_p = column_start 0 (λ (e : Entry). e.p) _ refl })
    (omega arith))
