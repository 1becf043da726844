-- Bytes whose front is read: what stands there, and what reading all of them answers.
-- Assumes nothing.
use mathlib.Core.Path.{◌≡◌, refl, sym, ap, ◌∙◌, fun_ext}
use mathlib.Core.Bool.{Bool, true, false, cond}
use mathlib.Core.List.{List, [], ◌∷◌, ◌++◌, append_assoc, append-nil}
use Prim.Native.Nat.{ℕ, ◌+◌, ◌*◌, ◌≤◌, ◌<◌}
use native.Mathlib.Omega.{arith}
use borrow.Author.Tests.{ltb-true, ltb-false, le-ltb, lt-ltb}
use lib.Dec.{ltb}
use lib.ListN.{length, take, drop, length-append, length-drop}
use lib.Seq.{take-append_seam, take_at}
use Rattle.base.specs.Outcomes.{Code, code, Outcome, answered, refused, and_then}
use Rattle.base.proofs.Inversion.{Says, by_row, by_step, says_refusal}
use Rattle.list.specs.Machine.{Bytes}
use Rattle.list.specs.DayLists.{entries_of, day_list}
use Rattle.list.specs.Checks.{header_fault, opening_fault}
use Rattle.list.specs.declared.types.Entry.{Entry}
use Rattle.list.specs.declared.types.Frame.{Frame}
use Rattle.list.specs.declared.types.DayList.{DayList}
use Rattle.list.specs.Laws.{Header, OpensIn}
use Rattle.list.proofs.Sound.{header_says, opening_says}
use Rattle.format.specs.Headers.{frame_of, count_of, opening_written, entries_place, zero_written, header_bytes}
use Rattle.format.specs.Reading.{entries_read, body_of, opened_of, decode_of, read_of}
use Rattle.format.specs.Laws.{PlaceIn}
use Rattle.format.specs.Writing.{bytes_of_entries, bytes_of}
use Rattle.format.proofs.FieldTrip.{bytes_drop}
use Rattle.format.proofs.HeaderTrip.{header_short, header_stands}
use Rattle.format.proofs.ListTrip.{TakenEntries, entries_say}
use Rattle.shares.specs.Shares.{share_bytes, front_entries, front_of}
use Rattle.shares.proofs.RowNumbers.{Neither, Any, entries_row}
use Rattle.shares.proofs.StandingLists.{Readable, or_clash, front_entries_lem, front_form}

-- one step after another, and rows before a step
then_then : {A B C : Type 0} (o : Outcome A) (f : A → Outcome B) (g : B → Outcome C)
    → and_then (and_then o f) g ≡ and_then o (λ a. and_then (f a) g)
then_then (answered a) f g = refl
then_then (refused k) f g = refl

row_then : {A B : Type 0} (t : Bool) (k : Code) (o : Outcome A) (g : A → Outcome B)
    → and_then (cond t (refused k) o) g ≡ cond t (refused k) (and_then o g)
row_then true k o g = refl
row_then false k o g = refl

-- the answer by one fact, the refusal by another
says_both : {A : Type 0} (P Q : A → Type 0) (R S : Code → Type 0) (o : Outcome A) → Says P R o → Says Q S o → Says P S o
says_both P Q R S (answered a) p q = p
says_both P Q R S (refused k) p q = q

-- what follows of an answer
says_answer : {A : Type 0} (P Q : A → Type 0) (R : Code → Type 0) (o : Outcome A) → ((a : A) → P a → Q a) → Says P R o → Says Q R o
says_answer P Q R (answered a) f p = f a p
says_answer P Q R (refused k) f p = p

module _ (bs : List ℕ) where
  abbrev f : Frame
  f = frame_of bs

  abbrev n : ℕ
  n = count_of bs

  abbrev from : ℕ
  from = entries_place bs

  -- row 8 after the entries, or the list that they make
  abbrev left_over : List Entry × ℕ → Outcome DayList
  left_over x = cond (ltb x.1 (length bs)) (refused (code 8 (x.1 ∷ []))) (answered (day_list f x.0))

  -- reading all bytes: the rows of the front, then row 8, then 14
  decode_front : decode_of bs ≡ and_then (front_entries bs) left_over
  unfolding decode_of opened_of body_of front_entries
  decode_front =
      let entries = entries_read bs n in
      sym (row_then (ltb (length bs) 3) _ _ left_over
      ∙ ap (cond (ltb (length bs) 3) (refused _))
      (then_then (header_fault 2 f.h n) _ left_over
      ∙ ap (and_then (header_fault 2 f.h n))
      (fun_ext (λ _. row_then (ltb (length bs) from) _ _ left_over
      ∙ ap (cond (ltb (length bs) from) (refused _))
      (row_then (zero_written bs) _ _ left_over
      ∙ ap (cond (zero_written bs) (refused _)) (then_then (opening_fault 3 f) (λ _. entries) left_over))))))

  pub read_refused : (k : Code) → front_entries bs ≡ refused k → read_of bs ≡ refused k
  unfolding read_of
  read_refused k e = rw (decode_front, e)

  pub front_refused : (k : Code) → front_entries bs ≡ refused k → front_of bs ≡ refused k
  unfolding front_of
  front_refused k e = rw e

  module _ (x : List Entry × ℕ) (e : front_entries bs ≡ answered x) where
    pub read_left : x.1 < length bs → read_of bs ≡ refused (code 8 (x.1 ∷ []))
    unfolding read_of
    read_left h = rw (decode_front, e, lt-ltb _ _ h)

    pub read_ended : length bs ≤ x.1 → read_of bs ≡ front_of bs
    unfolding read_of front_of
    read_ended h =
        let kept : entries_of (day_list f x.0) ≡ x.0 = take-append_seam x.0 _ in
        rw (decode_front, e, le-ltb _ _ h, kept)

  -- what was read at the front: a list that bytes can say, whose one form stands there
  pub record Front (x : List Entry × ℕ) : Type 0 where
    pub readable : Readable (day_list f x.0)
    pub rest : List ℕ
    pub form : bytes_of (day_list f x.0) ++ rest ≡ bs
    pub end : x.1 ≡ length (bytes_of (day_list f x.0))

  module _ (b : Bytes bs) (long : from ≤ length bs) (h : Header f.h n) (zero : zero_written bs ≡ false) (o : OpensIn f)
      (x : List Entry × ℕ) (taken : TakenEntries f n (drop from bs) (length bs) x) where
    abbrev l : DayList
    l = day_list f x.0

    kept : entries_of l ≡ x.0
    kept = take-append_seam x.0 _

    one_form : bytes_of l ++ taken.rest ≡ bs
    unfolding bytes_of
    one_form =
        let body : bytes_of_entries f x.0 ++ taken.rest ≡ drop from bs = sym (taken.form (bytes_drop bs from b)) in
        rw (kept, taken.count)
        (append_assoc (header_bytes f n) (bytes_of_entries f x.0) taken.rest ∙ rw body (sym (header_stands bs zero b long)))

    stood : Front x
    stood =
        record {
          readable =
              record {
                sound = record { header = rw taken.count h; opening = o; entries = rw kept taken.sound };
                fits = rw kept (taken.fits (bytes_drop bs from b));
                blank_after = ap (day_list f) kept;
              };
          rest = taken.rest;
          form = one_form;
          end = omega (arith, taken.left, ap length one_form, length-append (bytes_of l) taken.rest);
        }

  -- a refusal is not by 8, and in a share not by 1
  abbrev pub Told : Code → Type 0
  Told = Neither (share_bytes ≤ length bs)

  pub front_says : Bytes bs → Says Front Told (front_entries bs)
  unfolding front_entries
  front_says b =
      let entries = entries_read bs n in
      let Taken = TakenEntries f n (drop from bs) (length bs) in
      let other : (k at : ℕ) → (k ≡ 8 → ⊥) → (k ≡ 1 → ⊥) → Told (code k (at ∷ [])) = λ k at a b. (a, λ _. b) in
      by_row Front Told (ltb (length bs) 3) _ _ (λ t. (omega arith, λ e. absurd (omega (arith, ltb-true (length bs) 3 t, e))))
      (λ _. by_step (λ _. Header f.h n) Told Front (header_fault 2 f.h n) _
      (header_says 2 f.h n Told (other 2 0 (omega arith) (omega arith)) (other 3 2 (omega arith) (omega arith)))
      (λ _ h. by_row Front Told (ltb (length bs) from) _ _
      (λ t. (omega arith, λ e. absurd (omega (arith, ltb-true (length bs) from t, e, header_short (opening_written bs)))))
      (λ t.
      let long : from ≤ length bs = ltb-false _ _ t in
      let rest : from + length (drop from bs) ≡ length bs = omega (arith, length-drop from bs) in
      by_row Front Told (zero_written bs) _ _ (λ _. other 15 3 (omega arith) (omega arith))
      (λ z. by_step (λ _. OpensIn f) Told Front (opening_fault 3 f) _
      (opening_says 3 f Told (λ _. other 15 3 (omega arith) (omega arith)))
      (λ _ o. says_both Front Any (PlaceIn (length bs)) Told entries
      (says_answer Taken Front (PlaceIn (length bs)) entries (stood b long h z o) (entries_say f n from (drop from bs) (length bs) rest))
      (says_refusal Any (Neither (15 * n ≤ length (drop from bs))) Told entries
      (λ k row. (row.0, λ e. row.1 (omega (arith, e, rest, header_short (opening_written bs), h.room))))
      (entries_row f n from (drop from bs))))))))

-- the one form of a list that bytes can say, read alone
pub form_read : (l : DayList) → Readable l → read_of (bytes_of l) ≡ or_clash l
form_read l r =
    let none : bytes_of l ++ [] ≡ bytes_of l = append-nil (bytes_of l) in
    let entries = ap front_entries (sym none) ∙ front_entries_lem l r [] in
    read_ended (bytes_of l) (entries_of l, length (bytes_of l)) entries (omega arith) ∙ ap front_of (sym none) ∙ front_form l r []

-- the front is read as the bytes up to its end are, alone
module _ (bs : List ℕ) (x : List Entry × ℕ) (front : Front bs x) where
  abbrev found : DayList
  found = day_list (frame_of bs) x.0

  pub front_or_clash : front_of bs ≡ or_clash found
  front_or_clash = ap front_of (sym front.form) ∙ front_form found front.readable front.rest

  pub front_alone : front_of bs ≡ read_of (take x.1 bs)
  front_alone =
      let first : take x.1 bs ≡ bytes_of found =
      ap (take x.1) (sym front.form) ∙ take_at (bytes_of found) front.rest x.1 (sym front.end) in
      front_or_clash ∙ sym (ap read_of first ∙ form_read found front.readable)
