-- What reading the front of bytes says, against reading all of them.
-- Assumes nothing.
use mathlib.Core.Path.{◌≡◌, refl, sym, ap, ◌∙◌, subst}
use mathlib.Core.Bool.{Bool, true, false}
use mathlib.Core.List.{List, [], ◌∷◌, ◌++◌}
use Prim.Native.Nat.{ℕ, ◌≤◌, ◌<◌}
use native.Mathlib.Omega.{arith}
use borrow.Author.Tests.{ltb-true, ltb-false, ne_eqb}
use lib.Dec.{ltb}
use lib.ListN.{length, get_or, take}
use lib.Seq.{take-length}
use Rattle.base.specs.Outcomes.{Code, code, Outcome, answered, refused}
use Rattle.base.proofs.Inversion.{Says, by_row, refused_same}
use Rattle.list.specs.Machine.{Bytes}
use Rattle.list.specs.DayLists.{entries_of, day_list}
use Rattle.list.specs.Clashes.{first_clash}
use Rattle.list.specs.declared.types.Entry.{Entry}
use Rattle.list.specs.declared.types.DayList.{DayList}
use Rattle.list.proofs.ClashFacts.{apart}
use Rattle.list.proofs.Sound.{well_formed}
use Rattle.format.specs.Headers.{frame_of}
use Rattle.format.specs.Reading.{read_of}
use Rattle.format.specs.Writing.{bytes_of}
use Rattle.shares.specs.Shares.{front_entries, front_of}
use Rattle.shares.specs.Laws.{FrontLaw}
use Rattle.shares.specs.Internal.{read_end}
use Rattle.shares.proofs.StandingLists.{Readable, or_clash, Stands, stands_read}
use Rattle.shares.proofs.Fronts.{Front, Told, front_says, front_refused, front_or_clash, front_alone}
use Rattle.shares.proofs.Fronts.{read_refused, read_left, read_ended}

-- a list that bytes can say stands there, or 14 is given
or_clash_says : (bs : List ℕ) (l : DayList) → Readable l → Says (λ x. Stands x × (x ≡ l)) (Told bs) (or_clash l)
or_clash_says bs l r =
    by_row (λ x. Stands x × (x ≡ l)) (Told bs) (ltb (first_clash (entries_of l)) (length (entries_of l))) _ _
    (λ _. (omega arith, λ _. omega arith))
    (λ t. (record { formed = well_formed l r.sound (apart (entries_of l) (ltb-false _ _ t)); readable = r }, refl))

-- the reader is to be given the bytes up to e
pub record EndsAt (bs : List ℕ) (e : ℕ) : Type 0 where
  pub inside : e ≤ length bs
  pub read : read_of (take e bs) ≡ front_of bs

module _ (bs : List ℕ) (b : Bytes bs) where
  -- what was read: a list that stands at the front
  abbrev Read : DayList → Type 0
  Read l = Stands l × ((rest : List ℕ) × (bytes_of l ++ rest ≡ bs))

  read_says : Says Read (Told bs) (front_of bs)
  read_says = go (front_entries bs) refl (front_says bs b)
    where
      found : (x : List Entry × ℕ) → Front bs x → (o : Outcome DayList) → or_clash (day_list (frame_of bs) x.0) ≡ o → Says Read (Told bs) o
      found x front o e =
          turn o (subst (Says (λ y. Stands y × (y ≡ day_list (frame_of bs) x.0)) (Told bs)) e (or_clash_says bs _ front.readable))
        where
          turn : (o : Outcome DayList) → Says (λ y. Stands y × (y ≡ day_list (frame_of bs) x.0)) (Told bs) o → Says Read (Told bs) o
          turn (answered y) p = (p.0, (front.rest, ap (λ (z : DayList). bytes_of z ++ front.rest) p.1 ∙ front.form))
          turn (refused k) p = p

      go : (o : Outcome (List Entry × ℕ)) → front_entries bs ≡ o → Says (Front bs) (Told bs) o → Says Read (Told bs) (front_of bs)
      go (answered x) e front = rw (front_or_clash bs x front) (found x front _ refl)
      go (refused k) e not = rw (front_refused bs k e) not

  pub front_stands : Says (λ l. Stands l) (λ _. Unit {0}) (front_of bs)
  front_stands = turn (front_of bs) read_says
    where
      turn : (o : Outcome DayList) → Says Read (Told bs) o → Says (λ l. Stands l) (λ _. Unit {0}) o
      turn (answered l) p = p.0
      turn (refused k) p = tt

  -- row 8, of all bytes: by what the entries are read as
  eight_cases : {G : Type 0}
      → (read_of bs ≡ front_of bs → G)
      → ((at : ℕ) → at < length bs → read_of bs ≡ refused (code 8 (at ∷ [])) → front_of bs ≡ read_of (take at bs) → G)
      → G
  eight_cases {G} same left = go (front_entries bs) refl (front_says bs b)
    where
      go : (o : Outcome (List Entry × ℕ)) → front_entries bs ≡ o → Says (Front bs) (Told bs) o → G
      go (refused k) e not = same (read_refused bs k e ∙ sym (front_refused bs k e))
      go (answered x) e front = split (ltb x.1 (length bs)) refl
        where
          split : (t : Bool) → ltb x.1 (length bs) ≡ t → G
          split true t =
              let h : x.1 < length bs = ltb-true _ _ t in
              left x.1 h (read_left bs x e h) (front_alone bs x front)
          split false t = same (read_ended bs x e (ltb-false _ _ t))

  untested : (k : Code) → front_of bs ≡ refused k → k.number ≡ 8 → ⊥
  untested k e = let told : Told bs k = rw e at read_says in told.0

  pub front_law : FrontLaw bs
  front_law =
      record {
        left_over = λ at e.
            eight_cases
            (λ same. absurd (untested (code 8 (at ∷ [])) (sym same ∙ e) refl))
            (λ k h r alone.
            let here : k ≡ at = ap (λ (c : Code). get_or c.carries 0 0) (refused_same r e) in
            alone ∙ ap (λ (i : ℕ). read_of (take i bs)) here);
        none_left = λ none. eight_cases sym (λ k h r alone. absurd (none k r));
        untested = untested;
        long_enough = λ enough k e. let told : Told bs k = rw e at read_says in told.1 enough;
        formed = λ l e. let read : Read l = rw e at read_says in read.0.formed;
        form = λ l e. let read : Read l = rw e at read_says in read.1;
        whatever_follows = λ l e rest. let read : Read l = rw e at read_says in stands_read l read.0 rest;
      }

  pub ends_at : EndsAt bs (read_end (read_of bs) (length bs))
  ends_at =
      eight_cases
      (λ same. rw same (whole (front_of bs) refl read_says same))
      (λ at h r alone. rw r (record { inside = omega arith; read = sym alone }))
    where
      whole : (o : Outcome DayList) → front_of bs ≡ o → Says Read (Told bs) o → read_of bs ≡ front_of bs
          → EndsAt bs (read_end o (length bs))
      whole (answered l) e p same = record { inside = omega arith; read = ap read_of (take-length bs) ∙ same }
      whole (refused k) e not same =
          rw (ne_eqb k.number 8 not.0) (record { inside = omega arith; read = ap read_of (take-length bs) ∙ same })
