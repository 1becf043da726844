-- The value check of a longer list: the entries before were tested, and the new one stands last.
-- Assumes nothing.
use mathlib.Core.Path.{◌≡◌, refl, sym, ap, ◌∙◌}
use mathlib.Core.Bool.{Bool, true, false}
use mathlib.Core.List.{List, [], ◌∷◌, ◌++◌}
use Prim.Native.Nat.{ℕ, ◌+◌, ◌<◌, ◌≤◌}
use native.Mathlib.Omega.{arith}
use borrow.Author.Tests.{lt-ltb, le-ltb}
use lib.Dec.{ltb}
use lib.ListN.{length, get_or, length-append, get_or-append}
use lib.Seq.{take-append_seam}
use Rattle.base.specs.Outcomes.{Outcome, answered, refused, row, first_of, and_then}
use Rattle.base.proofs.Searches.{Passed, passed_next, passed_found, passed_all, first_cong}
use Rattle.list.specs.DayLists.{entries_of, blank, day_list}
use Rattle.list.specs.Entries.{entry_fault}
use Rattle.list.specs.Clashes.{clash, clashes_earlier, first_clash, clash_row}
use Rattle.list.specs.Checks.{entries_fault, values_fault, check_of}
use Rattle.list.specs.declared.types.Entry.{Entry}
use Rattle.list.specs.declared.types.Frame.{Frame}
use Rattle.list.specs.declared.types.DayList.{DayList}
use Rattle.list.proofs.ClashFacts.{clash_search, apart_told}
use Rattle.list.specs.Laws.{Header, Sound}
use Rattle.list.proofs.Sound.{Every, SoundList, header_passes, opening_passes, faultless, sound_list, list_apart}
use Rattle.commits.specs.Laws.{EntryLaw}

-- the entries that count in a list value made of entries are these
pub entries_are : (f : Frame) (es : List Entry) → entries_of (day_list f es) ≡ es
entries_are f es = take-append_seam es _

-- a test, and then nothing
test_alone : (o u : Outcome (Unit {0})) → u ≡ answered tt → and_then o (λ _. u) ≡ o
test_alone (answered t) u e = e
test_alone (refused k) u e = refl

-- rows 16, 6 and 7 of the entry after sound ones
last_fault : (f : Frame) (i : ℕ) (es : List Entry) (e : Entry) (k : ℕ) → k ≡ i + length es → Every (Sound f) es
    → entries_fault f i (es ++ (e ∷ [])) ≡ entry_fault f k e
unfolding entries_fault
last_fault f i [] e k z all = let q : k ≡ i = omega arith in rw q (test_alone (entry_fault f i e) (answered tt) refl)
last_fault f i (x ∷ es) e k z all = rw (faultless f i x all.0) (last_fault f (i + 1) es e k (omega arith) all.1)

-- row 14 of the entry after such as do not clash
module _ (es : List Entry) (e : Entry) (none : length es ≤ first_clash es) where
  abbrev longer : List Entry
  longer = es ++ (e ∷ [])

  at : (i : ℕ) → i < length es → get_or longer i blank ≡ get_or es i blank
  at i h = get_or-append es (e ∷ []) blank i h

  earlier : (k : ℕ) → k < length es → clashes_earlier longer k ≡ clashes_earlier es k
  earlier k h =
      ap (λ (i : ℕ). ltb i k) (first_cong k _ _ (λ i l. λ j. clash (at i (omega (arith, l, h)) j) (at k h j)))

  more : length longer ≡ length es + 1
  more = length-append es (e ∷ [])

  so_far : Passed (length longer) (clashes_earlier longer) (length es)
  so_far =
      record {
        within = omega (arith, more);
        none_before = λ k h t. (clash_search es).none_before k (omega (arith, h, none)) (sym (earlier k h) ∙ t);
      }

  last_clash : first_of {A = Unit {0}} (clash_row (λ place. place) longer ∷ []) (answered tt)
      ≡ first_of (row 14 (clashes_earlier longer (length es)) (length es) ∷ []) (answered tt)
  unfolding first_clash
  last_clash = go (clashes_earlier longer (length es)) refl
    where
      go : (t : Bool) → clashes_earlier longer (length es) ≡ t
          → first_of {A = Unit {0}} (clash_row (λ place. place) longer ∷ []) (answered tt)
          ≡ first_of (row 14 t (length es) ∷ []) (answered tt)
      go true h =
          let z : first_clash longer ≡ length es = passed_found (length longer) (clashes_earlier longer) (length es) so_far h in
          rw (z, lt-ltb (length es) (length longer) (omega (arith, more))) refl
      go false h =
          let next = passed_next (length longer) (clashes_earlier longer) (length es) so_far (omega (arith, more)) h in
          let z : first_clash longer ≡ length longer =
          passed_all (length longer) (clashes_earlier longer) (length es + 1) next (omega (arith, more)) in
          rw (z, le-ltb (length longer) (length longer) (omega arith)) refl

pub entry_law : (l : DayList) (e : Entry) → EntryLaw l e
unfolding check_of values_fault
entry_law l e formed room =
    rw (
      header_passes 0 l.frame.h (length (longer es e none)) header,
      opening_passes 0 l.frame sound.opening,
      entries_are l.frame (longer es e none),
      last_fault l.frame 0 es e (length es) (omega arith) sound.entries,
      last_clash es e none,
    )
    refl
  where
    es : List Entry
    es = entries_of l

    none : length es ≤ first_clash es
    none = apart_told es (list_apart l formed)

    sound : SoundList l
    sound = sound_list l formed

    header : Header l.frame.h (length (longer es e none))
    header =
        record {
          some_minutes = sound.header.some_minutes;
          one_day = sound.header.one_day;
          room = omega (arith, more es e none);
        }
