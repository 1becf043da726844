-- The value check in facts: each row by the values alone.
-- Assumes nothing.
use mathlib.Core.Path.{◌≡◌, refl, sym, ap, ◌∙◌}
use mathlib.Core.Logic.{◌⊎◌, inl, inr}
use mathlib.Core.List.{List, [], ◌∷◌}
use Prim.Native.Nat.{ℕ, zero, suc, ◌+◌, ◌<◌, ◌≤◌}
use native.Mathlib.Nat.{add-zero, zero-add}
use native.Mathlib.Omega.{arith}
use lib.ListN.{length, get_or}
use Rattle.base.specs.Outcomes.{Code, code, answered, refused}
use Rattle.list.specs.Entries.{entry_fault}
use Rattle.list.specs.DayLists.{entries_of, blank}
use Rattle.list.specs.Checks.{header_fault, opening_fault, entries_fault, values_fault, check_of}
use Rattle.list.specs.Laws.{FirstRow, sixteen, six, past_day, too_short, SoundValues, CheckLaw}
use Rattle.list.specs.declared.types.Entry.{Entry}
use Rattle.list.specs.declared.types.Frame.{Frame}
use Rattle.list.specs.declared.types.DayList.{DayList}
use Rattle.base.proofs.Sums.{le_or_lt}
use Rattle.list.proofs.Sound.{SoundList, header_passes, opening_passes, faultless, every_at_places, sound_list, sound_at}
use Rattle.list.proofs.Sound.{sound_values, list_apart, well_formed}
use Rattle.list.proofs.ClashLaws.{clash_law}
use Rattle.list.proofs.CheckCases as cases

-- the first entry that has a fault is told
first_fault : (f : Frame) (at : ℕ) (es : List Entry) (i : ℕ) → i < length es
    → ((j : ℕ) → j < i → entry_fault f (at + j) (get_or es j blank) ≡ answered tt)
    → (k : Code) → entry_fault f (at + i) (get_or es i blank) ≡ refused k → entries_fault f at es ≡ refused k
unfolding entries_fault
first_fault f at [] i h none k e = absurd (omega arith)
first_fault f at (x ∷ es) zero h none k e = rw (rw (add-zero at) at e)
first_fault f at (x ∷ es) (suc i) h none k e =
    rw (rw (add-zero at) at (none 0 (omega arith)))
    (first_fault f (at + 1) es i (omega arith) (λ j b. moved j ∙ none (suc j) (omega arith)) k (moved i ∙ e))
  where
    moved : (j : ℕ) → entry_fault f (at + 1 + j) (get_or es j blank) ≡ entry_fault f (at + suc j) (get_or es j blank)
    moved j = let z : at + 1 + j ≡ at + suc j = omega arith in ap (λ (p : ℕ). entry_fault f p (get_or es j blank)) z

-- rows 2, 3 and 15, by the numbers; 3 and 15 carry the place given
pub header_two : (place h n : ℕ) → (h ≡ 0) ⊎ (1440 < h) → header_fault place h n ≡ refused (code 2 (0 ∷ []))
header_two place h n (inl z) = sym (cases.no_day place h n z)
header_two place h n (inr l) = sym (cases.long_day place h n (omega arith) l)

pub header_three : (place h n : ℕ) → 1 ≤ h → h ≤ 1440 → 64 < n → header_fault place h n ≡ refused (code 3 (place ∷ []))
header_three place h n some day many = sym (cases.too_many place h n (omega arith) day many)

pub opens_late : (place : ℕ) (f : Frame) → f.h ≤ f.opening → opening_fault place f ≡ refused (code 15 (place ∷ []))
opens_late place f h = sym (cases.opens_past_day place f h)

-- the row that holds first is the entry's fault
pub entry_told : (f : Frame) (e : Entry) (place k : ℕ) → FirstRow f e k → entry_fault f place e ≡ refused (code k (place ∷ []))
entry_told f e place _ (sixteen o) = sym (cases.before_opening f place e o)
entry_told f e place _ (six o z) = sym (cases.no_minutes f place e o z)
entry_told f e place _ (past_day o p h) = sym (cases.past_day f place e o (omega arith) h)
entry_told f e place _ (too_short o p w) =
    le_or_lt e.d f.h (λ h. sym (cases.too_short f place e o (omega arith) h w))
    (λ h. sym (cases.past_day f place e o (omega arith) h))

module _ (l : DayList) where
  abbrev f : Frame
  f = l.frame

  abbrev es : List Entry
  es = entries_of l

  as_list : SoundValues l → SoundList l
  as_list s = record { header = s.header; opening = s.opening; entries = every_at_places _ es s.entries }

  pub check_law : CheckLaw l
  unfolding check_of values_fault
  check_law =
      record {
        none = (
          λ w.
              let s = sound_list l w in
              (record { header = s.header; opening = s.opening; entries = λ i h. sound_at l w i h }, list_apart l w),
          λ z. well_formed l (as_list z.0) z.1,
        );
        two = λ z. rw (header_two 0 f.h l.n z) refl;
        three = λ some day many. rw (header_three 0 f.h l.n some day many) refl;
        fifteen = λ header h. rw (header_passes 0 f.h l.n header, opens_late 0 f h) refl;
        entry = λ header o i h below k first.
            let entry : entry_fault f (0 + i) (get_or es i blank) ≡ refused (code k (i ∷ [])) = simp zero-add (entry_told f _ i k first) in
            rw (
              header_passes 0 f.h l.n header,
              opening_passes 0 f o,
              first_fault f 0 es i h (λ j b. simp zero-add (faultless f j _ (below j b))) _ entry,
            ) refl;
        fourteen = λ s i first. (clash_law l).refuses i (sound_values l (as_list s)) first;
      }
