-- Lists that are checked alike: those that differ in seals and kinds alone, and so those equal by the documents' rule.
-- Assumes nothing.
use mathlib.Core.Path.{◌≡◌, refl, sym, ap, ◌∙◌}
use mathlib.Core.List.{List, [], ◌∷◌, map}
use Prim.Native.Nat.{ℕ, ◌+◌}
use lib.Dec.{ltb}
use lib.ListN.{length, get_or, length-map, get_or-map}
use Rattle.base.specs.Outcomes.{Outcome, and_then}
use Rattle.base.proofs.Searches.{first_cong}
use Rattle.list.specs.Entries.{entry_fault}
use Rattle.list.specs.DayLists.{entries_of, blank, SameList, checked_fields, SameSerials}
use Rattle.list.specs.Clashes.{clash, clashes_earlier, first_clash}
use Rattle.list.specs.Checks.{header_fault, opening_fault, entries_fault, values_fault, check_of, WellFormed}
use Rattle.list.specs.declared.types.Entry.{Entry}
use Rattle.list.specs.declared.types.Frame.{Frame}
use Rattle.list.specs.declared.types.DayList.{DayList}

-- lists that both pass
pub both_pass : (a b : DayList) → WellFormed a → WellFormed b → check_of a ≡ check_of b
both_pass a b x y = x ∙ sym y

-- rows 16, 6 and 7 do not look at seals and kinds
entries_part : (f : Frame) (i : ℕ) (es : List Entry) → entries_fault f i es ≡ entries_fault f i (map checked_fields es)
unfolding entries_fault entry_fault
entries_part f i [] = refl
entries_part f i (e ∷ es) = ap (λ (o : Outcome (Unit {0})). and_then (entry_fault f i e) (λ _. o)) (entries_part f (i + 1) es)

-- nor does row 14
module _ (es : List Entry) where
  at_part : (i : ℕ) → get_or (map checked_fields es) i blank ≡ checked_fields (get_or es i blank)
  at_part i = get_or-map checked_fields es i blank

  earlier_part : (k : ℕ) → clashes_earlier es k ≡ clashes_earlier (map checked_fields es) k
  earlier_part k =
      ap (λ (i : ℕ). ltb i k) (first_cong k _ _ (λ i _. λ j. clash (sym (at_part i) j) (sym (at_part k) j)))

  clash_part : first_clash es ≡ first_clash (map checked_fields es)
  unfolding first_clash
  clash_part = rw (length-map es checked_fields) (first_cong (length es) _ _ (λ k _. earlier_part k))

module _ {a b : DayList} (s : SameSerials a b) where
  values_alike : values_fault a ≡ values_fault b
  unfolding values_fault
  values_alike = λ j. and_then (header_fault 0 (s.frame j).h (s.n j)) (λ _. and_then (opening_fault 0 (s.frame j)) (λ _. faults j))
    where
      faults : entries_fault a.frame 0 (entries_of a) ≡ entries_fault b.frame 0 (entries_of b)
      faults =
          entries_part a.frame 0 (entries_of a)
          ∙ (λ j. entries_fault (s.frame j) 0 (s.entries j))
          ∙ sym (entries_part b.frame 0 (entries_of b))

  count_alike : length (entries_of a) ≡ length (entries_of b)
  count_alike = sym (length-map (entries_of a) checked_fields) ∙ ap length s.entries ∙ length-map (entries_of b) checked_fields

  clash_alike : first_clash (entries_of a) ≡ first_clash (entries_of b)
  clash_alike = clash_part (entries_of a) ∙ ap first_clash s.entries ∙ sym (clash_part (entries_of b))

  -- they are checked alike
  pub serials_checked : check_of a ≡ check_of b
  unfolding check_of
  serials_checked = rw (values_alike, clash_alike, count_alike) refl

pub same_serials : {a b : DayList} → SameList a b → SameSerials a b
same_serials s = record { frame = s.frame; n = s.n; entries = ap (map checked_fields) s.entries }

pub same_checked : {a b : DayList} → SameList a b → check_of a ≡ check_of b
same_checked s = serials_checked (same_serials s)
