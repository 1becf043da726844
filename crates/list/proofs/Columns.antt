-- An array of 64 values that holds a field of a list's entries, place by place.
-- Assumes nothing.
use mathlib.Core.Path.{◌≡◌, refl, sym, ◌∙◌, ap}
use mathlib.Core.List.{List}
use Prim.Native.Nat.{ℕ, ◌+◌, ◌<◌, ◌≤◌, min}
use native.Mathlib.Omega.{arith}
use lib.ListN.{length, get_or, set, take, replicate, length-take, length-set, length-replicate, get_or-replicate, get_or-eq_default}
use lib.Seq.{get_or-set_same, get_or-set_other, get_or-take, take_all}
use Rattle.base.proofs.Sums.{le_or_lt, same_cases}
use Rattle.list.specs.DayLists.{blank, entries_of}
use Rattle.list.specs.declared.types.Entry.{Entry}
use Rattle.list.specs.declared.types.DayList.{DayList}

-- the array holds a field of the first i entries, and z after them
pub record Column {A : Type 0} (z : A) (field : Entry → A) (es : List Entry) (xs : List A) (i : ℕ) : Type 0 where
  pub long : length xs ≡ 64
  pub is : (j : ℕ) → get_or xs j z ≡ field (get_or (take i es) j blank)

-- places other than i have the same entry, or none, before and after
others : (es : List Entry) (i j : ℕ) → (i ≡ j → ⊥) → get_or (take i es) j blank ≡ get_or (take (i + 1) es) j blank
others es i j other =
    le_or_lt j i
    (λ h. get_or-take i es j blank (omega (arith, other, h)) ∙ sym (get_or-take (i + 1) es j blank (omega arith)))
    (λ h.
    let a : length (take i es) ≤ j = simp length-take (omega arith) in
    let b : length (take (i + 1) es) ≤ j = simp length-take (omega arith) in
    get_or-eq_default (take i es) blank a ∙ sym (get_or-eq_default (take (i + 1) es) blank b))

module _ {A : Type 0} (z : A) (field : Entry → A) (es : List Entry) where
  pub column_start : field blank ≡ z → Column z field es (replicate 64 z) 0
  column_start e =
      record {
        long = length-replicate {A = A} 64 z;
        is = λ j. le_or_lt 64 j
            (λ h. get_or-eq_default (replicate 64 z) z {n = j} (rw (length-replicate {A = A} 64 z) h) ∙ sym e)
            (λ h. get_or-replicate 64 j z z h ∙ sym e);
      }

  pub column_next : (xs : List A) (i : ℕ) (x : A) → i < 64 → Column z field es xs i → x ≡ field (get_or es i blank)
      → Column z field es (set xs i x) (i + 1)
  column_next xs i x h so e =
      record {
        long = length-set xs i x ∙ so.long;
        is = λ j. same_cases i j
            (λ q _.
            rw (← q)
            (get_or-set_same xs i x z (omega (arith, so.long)) ∙ e ∙ ap field (sym (get_or-take (i + 1) es i blank (omega arith)))))
            (λ q _. get_or-set_other xs i j x z (λ r. q (sym r)) ∙ so.is j ∙ ap field (others es i j q));
      }

-- the places that the arrays have are those of the entries that count
pub all_taken : (l : DayList) → length l.entries ≡ 64 → take (min l.n 64) l.entries ≡ entries_of l
all_taken l long =
    le_or_lt l.n 64
    (λ h.
    let z : min l.n 64 ≡ l.n = omega arith in
    rw z refl)
    (λ h.
    let z : min l.n 64 ≡ 64 = omega arith in
    rw z (take_all 64 l.entries (omega (arith, long)) ∙ sym (take_all l.n l.entries (omega (arith, long)))))

pub held_count : (l : DayList) → length l.entries ≡ 64 → (count : ℕ) → count ≡ min l.n 64 → length (entries_of l) ≡ count
held_count l long count e = omega (arith, long, e, length-take l.n l.entries)
