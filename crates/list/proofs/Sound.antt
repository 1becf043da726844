-- What the value check accepts: a header and entries that rows 2, 3, 15, 16, 6 and 7 leave, of which no two clash, and exactly those.
-- Assumes nothing.
use mathlib.Core.Path.{◌≡◌, refl}
use mathlib.Core.Bool.{◌||◌}
use mathlib.Core.List.{List, [], ◌∷◌}
use Prim.Native.Nat.{ℕ, zero, suc, ◌+◌, ◌≤◌, ◌<◌}
use native.Mathlib.Nat.{add-zero}
use native.Mathlib.Omega.{arith}
use borrow.Author.Tests.{ltb-true, ltb-false, eqb-false, le-ltb, ne_eqb, leb-true, leb-false, lt-leb}
use lib.Dec.{eqb, leb, ltb}
use lib.ListN.{length, get_or}
use Rattle.base.specs.Outcomes.{Code, code, Outcome, answered, refused}
use Rattle.list.specs.Entries.{entry_fault}
use Rattle.list.specs.DayLists.{entries_of, blank}
use Rattle.list.specs.Clashes.{first_clash, Apart, FirstClash}
use Rattle.list.specs.Checks.{header_fault, opening_fault, entries_fault, values_fault, check_of, WellFormed}
use Rattle.list.specs.Laws.{Header, OpensIn, Sound}
use Rattle.list.specs.declared.types.Entry.{Entry}
use Rattle.list.specs.declared.types.Frame.{Frame}
use Rattle.list.specs.declared.types.DayList.{DayList}
use Rattle.base.proofs.Inversion.{Says, by_row, by_step, Anything, neither}
use Rattle.list.proofs.ClashFacts.{apart, first_clash_lem, apart_told}

module _ (place h n : ℕ) where
  -- what rows 2 and 3 say: of a refusal, whatever holds of both
  pub header_says : (R : Code → Type 0) → R (code 2 (0 ∷ [])) → R (code 3 (place ∷ [])) → Says (λ _. Header h n) R (header_fault place h n)
  unfolding header_fault
  header_says R two three =
      by_row (λ _. Header h n) R (eqb h 0 || ltb 1440 h) _ _ (λ t. two)
      (λ w. by_row (λ _. Header h n) R (ltb 64 n) _ _ (λ t. three)
      (λ t.
      let z = neither (eqb h 0) (ltb 1440 h) w in
      record { some_minutes = omega (arith, eqb-false h 0 z.0); one_day = ltb-false _ _ z.1; room = ltb-false _ _ t }))

  -- a header is accepted exactly if it is sound
  pub header_of : header_fault place h n ≡ answered tt → Header h n
  header_of e = rw e at (header_says Anything tt tt)

  pub header_passes : Header h n → header_fault place h n ≡ answered tt
  unfolding header_fault
  header_passes s =
      let z : h ≡ 0 → ⊥ = omega arith in
      simp (ne_eqb _ _ z, le-ltb _ _ s.one_day, le-ltb _ _ s.room)

module _ (place : ℕ) (f : Frame) where
  -- what row 15 says: of a refusal, whatever holds of it
  pub opening_says : (R : Code → Type 0) → (f.h ≤ f.opening → R (code 15 (place ∷ []))) → Says (λ _. OpensIn f) R (opening_fault place f)
  unfolding opening_fault
  opening_says R fifteen =
      by_row (λ _. OpensIn f) R (leb f.h f.opening) _ _ (λ t. fifteen (leb-true _ _ t)) (λ t. leb-false _ _ t)

  pub opening_passes : OpensIn f → opening_fault place f ≡ answered tt
  unfolding opening_fault
  opening_passes o = simp (lt-leb _ _ o)

module _ (f : Frame) (at : ℕ) (e : Entry) where
  -- what rows 16, 6 and 7 say: of a refusal, whatever holds of each
  pub fault_says : (R : Code → Type 0) → (e.r < f.opening → R (code 16 (at ∷ []))) → R (code 6 (at ∷ [])) → R (code 7 (at ∷ []))
      → Says (λ _. Sound f e) R (entry_fault f at e)
  unfolding entry_fault
  fault_says R sixteen six seven =
      by_row (λ _. Sound f e) R (ltb e.r f.opening) _ _ (λ t. sixteen (ltb-true _ _ t))
      (λ o. by_row (λ _. Sound f e) R (eqb e.p 0) _ _ (λ t. six)
      (λ p. by_row (λ _. Sound f e) R (ltb f.h e.d || ltb e.d (e.r + e.p)) _ _ (λ t. seven)
      (λ w.
      let z = neither _ _ w in
      record {
        opened = ltb-false _ _ o;
        some_minutes = omega (arith, eqb-false e.p 0 p);
        in_day = ltb-false _ _ z.0;
        room = ltb-false _ _ z.1;
      })))

  -- a sound entry has no fault, at any place
  pub faultless : Sound f e → entry_fault f at e ≡ answered tt
  unfolding entry_fault
  faultless s =
      let z : e.p ≡ 0 → ⊥ = omega arith in
      simp (le-ltb _ _ s.opened, ne_eqb _ _ z, le-ltb _ _ s.in_day, le-ltb _ _ s.room)

-- every one of the entries
abbrev pub Every : (Entry → Type 0) → List Entry → Type 0
Every P [] = Unit {0}
Every P (e ∷ es) = P e × Every P es

-- what holds of every entry holds of the one at any place
every_place : (P : Entry → Type 0) (es : List Entry) → Every P es → (i : ℕ) → i < length es → P (get_or es i blank)
every_place P [] all i h = absurd (omega arith)
every_place P (e ∷ es) all zero h = all.0
every_place P (e ∷ es) all (suc i) h = every_place P es all.1 i (omega arith)

-- and back
pub every_at_places : (P : Entry → Type 0) (es : List Entry) → ((i : ℕ) → i < length es → P (get_or es i blank)) → Every P es
every_at_places P [] all = tt
every_at_places P (e ∷ es) all = (all 0 (omega arith), every_at_places P es (λ i h. all (suc i) (omega arith)))

-- a fact of every refusal up to row 7, and of every one from row 15 on, whatever value it carries
abbrev pub Low : (Code → Type 0) → Type 0
Low R = (k at : ℕ) → k ≤ 7 → R (code k (at ∷ []))

abbrev pub High : (Code → Type 0) → Type 0
High R = (k at : ℕ) → 15 ≤ k → R (code k (at ∷ []))

-- a fact of row 15, if the room opens when the day is over
abbrev pub OfFifteen : (Code → Type 0) → Frame → Type 0
OfFifteen R f = f.h ≤ f.opening → R (code 15 (0 ∷ []))

-- a fact of row 16, for those of the entries that come before the opening minute, the first at place i
abbrev pub OfSixteen : (Code → Type 0) → Frame → ℕ → List Entry → Type 0
OfSixteen R f i es = (j : ℕ) → j < length es → (get_or es j blank).r < f.opening → R (code 16 ((i + j) ∷ []))

module _ (f : Frame) where
  -- what follows from sound entries, an answer of their check says; a refusal says whatever holds of rows 16, 6 and 7
  checked_say : (R : Code → Type 0) → Low R
      → (Q : Type 0) (i : ℕ) (es : List Entry) → OfSixteen R f i es → (Every (Sound f) es → Q) → Says (λ _. Q) R (entries_fault f i es)
  unfolding entries_fault
  checked_say R low Q i [] sixteen q = q tt
  checked_say R low Q i (e ∷ es) sixteen q =
      by_step (λ _. Sound f e) R (λ _. Q) (entry_fault f i e) _
      (fault_says f i e R (λ r. rw (add-zero i) at (sixteen 0 (omega arith) r)) (low 6 i (omega arith)) (low 7 i (omega arith)))
      (λ _ s. checked_say R low Q (i + 1) es
      (λ j h r. let z : i + suc j ≡ i + 1 + j = omega arith in rw z at (sixteen (suc j) (omega arith) r)) (λ more. q (s, more)))

  checked_passes : (i : ℕ) (es : List Entry) → Every (Sound f) es → entries_fault f i es ≡ answered tt
  unfolding entries_fault
  checked_passes i [] s = refl
  checked_passes i (e ∷ es) s = rw (faultless f i e s.0) (checked_passes (i + 1) es s.1)

-- a list's header and each of its entries are sound
pub record SoundList (l : DayList) : Type 0 where
  pub header : Header l.frame.h l.n
  pub opening : OpensIn l.frame
  pub entries : Every (Sound l.frame) (entries_of l)

module _ (l : DayList) where
  abbrev es : List Entry
  es = entries_of l

  -- what rows 2, 3, 15, 16, 6 and 7 say: of a refusal, whatever holds of each
  values_say : (R : Code → Type 0) → Low R → OfFifteen R l.frame → OfSixteen R l.frame 0 es
      → Says (λ _. SoundList l) R (values_fault l)
  unfolding values_fault
  values_say R low fifteen sixteen =
      let f = l.frame in
      let S : Unit {0} → Type 0 = λ _. SoundList l in
      by_step (λ _. Header f.h l.n) R S (header_fault 0 f.h l.n) _
      (header_says 0 f.h l.n R (low 2 0 (omega arith)) (low 3 0 (omega arith)))
      (λ _ h. by_step (λ _. OpensIn f) R S (opening_fault 0 f) _ (opening_says 0 f R fifteen)
      (λ _ o. checked_say f R low (SoundList l) 0 es sixteen
      (λ s. record { header = h; opening = o; entries = s })))

  pub sound_values : SoundList l → values_fault l ≡ answered tt
  unfolding values_fault
  sound_values s =
      rw (header_passes 0 l.frame.h l.n s.header, opening_passes 0 l.frame s.opening)
      (checked_passes l.frame 0 (entries_of l) s.entries)

  -- what the value check says: of a refusal, whatever holds of those rows and of 14
  module _ (R : Code → Type 0) (low : Low R) (fifteen : OfFifteen R l.frame) (sixteen : OfSixteen R l.frame 0 es)
      (fourteen : values_fault l ≡ answered tt → FirstClash es (first_clash es) → R (code 14 (first_clash es ∷ [])))
    where
      passes_say : Says (λ _. SoundList l × Apart es) R (check_of l)
      unfolding check_of
      passes_say =
          by_step (λ _. SoundList l) R (λ _. SoundList l × Apart es) (values_fault l) _ (values_say R low fifteen sixteen)
          (λ _ s. by_row (λ _. SoundList l × Apart es) R (ltb (first_clash es) (length es)) _ _
          (λ t. fourteen (sound_values s) (first_clash_lem es (ltb-true _ _ t)))
          (λ t. (s, apart es (ltb-false _ _ t))))

      pub check_tells : Says (λ _. WellFormed l) R (check_of l)
      check_tells = go (check_of l) refl passes_say
        where
          go : (o : Outcome (Unit {0})) → check_of l ≡ o → Says (λ _. SoundList l × Apart es) R o → Says (λ _. WellFormed l) R o
          go (answered t) e p = e
          go (refused k) e p = p

  pub check_says : (R : Code → Type 0) → Low R → High R
      → (values_fault l ≡ answered tt → FirstClash es (first_clash es) → R (code 14 (first_clash es ∷ [])))
      → Says (λ _. WellFormed l) R (check_of l)
  check_says R low high = check_tells R low (λ _. high 15 0 (omega arith)) (λ i _ _. high 16 (0 + i) (omega arith))

  -- a list is well-formed exactly if its header and its entries are sound and no two entries clash
  passed : WellFormed l → SoundList l × Apart es
  passed w = rw w at (passes_say Anything (λ _ _ _. tt) (λ _. tt) (λ _ _ _. tt) (λ _ _. tt))

  pub sound_list : WellFormed l → SoundList l
  sound_list w = (passed w).0

  -- so the entry at each place is sound
  pub sound_at : WellFormed l → (i : ℕ) → i < length es → Sound l.frame (get_or es i blank)
  sound_at w = every_place (Sound l.frame) es (sound_list w).entries

  pub list_apart : WellFormed l → Apart es
  list_apart w = (passed w).1

  pub values_apart : values_fault l ≡ answered tt → Apart es → WellFormed l
  unfolding check_of
  values_apart values none = rw (values, le-ltb _ _ (apart_told es none)) refl

  pub well_formed : SoundList l → Apart es → WellFormed l
  well_formed s none = values_apart (sound_values s) none
