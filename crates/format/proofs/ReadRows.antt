-- The rows of reading, each by what the bytes say.
-- Assumes nothing.
use mathlib.Core.Path.{◌≡◌, refl, ap, ◌∙◌}
use mathlib.Core.Logic.{◌⊎◌, inl, inr}
use mathlib.Core.Bool.{Bool, true, false, cond}
use mathlib.Core.List.{List, [], ◌∷◌, ◌++◌}
use Prim.Native.Nat.{ℕ, zero, suc, ◌+◌, ◌-◌, ◌≤◌, ◌<◌}
use native.Mathlib.Omega.{arith}
use borrow.Author.Tests.{eq-eqb, ne_eqb, lt-ltb, le-ltb}
use lib.ListN.{length, get_or, drop}
use lib.Seq.{drop-drop, take-append_seam}
use Rattle.base.specs.Outcomes.{Code, code, Outcome, answered, refused, and_then}
use Rattle.list.specs.DayLists.{entries_of, day_list}
use Rattle.list.specs.Checks.{opening_fault}
use Rattle.list.specs.Laws.{Header}
use Rattle.list.specs.declared.types.Entry.{Entry}
use Rattle.list.specs.declared.types.Frame.{Frame}
use Rattle.format.specs.Headers.{opening_written, frame_of, count_of, entries_place, zero_written}
use Rattle.format.specs.Maps.{fields_of, size_of}
use Rattle.format.specs.EntryFields.{entry_at, fields_entry, entry_of}
use Rattle.format.specs.Reading.{entries_from, body_of, opened_of, decode_of, read_of}
use Rattle.format.specs.Laws.{HeaderReads, EntryRow, no_map, map_breaks, field_missing, default, values, EntryReads, ReadRowsLaw}
use Rattle.base.proofs.Inversion.{answered_same, answered_refused}
use Rattle.list.proofs.Sound.{header_passes, opening_passes, faultless}
use Rattle.list.proofs.CheckLaws.{entry_told, header_two, header_three, opens_late}
use Rattle.format.proofs.ReadCases.{before, before_nothing, body_refused, body_left, body_done}
use Rattle.format.proofs.ReadLaws.{read_law}

-- the row that holds first turns the entry back
entry_row : (f : Frame) (at : ℕ) (rest : List ℕ) (k : Code) → EntryRow f at rest k → entry_of f at rest ≡ refused k
unfolding entry_of fields_entry
entry_row f at rest _ (no_map z) = rw (eq-eqb _ _ z) refl
entry_row f at rest _ (map_breaks s b) = let z : length rest ≡ 0 → ⊥ = omega arith in rw (ne_eqb _ _ z, b) refl
entry_row f at rest _ (field_missing s b h) = let z : length rest ≡ 0 → ⊥ = omega arith in rw (ne_eqb _ _ z, b, lt-ltb _ _ h) refl
entry_row f at rest _ (default s b h w) =
    let z : length rest ≡ 0 → ⊥ = omega arith in
    rw (ne_eqb _ _ z, b, le-ltb _ _ h, w) refl
entry_row f at rest _ (values s b h w k first) =
    let z : length rest ≡ 0 → ⊥ = omega arith in
    rw (ne_eqb _ _ z, b, le-ltb _ _ h, w, entry_told f _ at k first) refl

-- an entry of which none holds is read
entry_taken : (f : Frame) (at : ℕ) (rest : List ℕ) → EntryReads f rest
    → let m = fields_of (get_or rest 0 0) in entry_of f at rest ≡ answered (entry_at f m rest, size_of m)
unfolding entry_of fields_entry
entry_taken f at rest s =
    let z : length rest ≡ 0 → ⊥ = omega (arith, s.some) in
    rw (ne_eqb _ _ z, s.map, le-ltb _ _ s.long, s.written, faultless f at _ s.sound) refl

-- one entry in front of those that follow it
abbrev with_first : Entry → Outcome (List Entry × ℕ) → Outcome (List Entry × ℕ)
with_first e o = and_then o (λ more. answered (e ∷ more.0, more.1))

first_before : (e : Entry) (es : List Entry) (o : Outcome (List Entry × ℕ)) → with_first e (before es o) ≡ before (e ∷ es) o
first_before e es (answered p) = refl
first_before e es (refused k) = refl

module _ (f : Frame) (bs : List ℕ) where
  -- n entries, of which the first i are read and end at place at, are these and the k after them
  split : (i n k from : ℕ) (es : List Entry) (at : ℕ) → n ≡ i + k → entries_from f i from (drop from bs) ≡ answered (es, at)
      → entries_from f n from (drop from bs) ≡ before es (entries_from f k at (drop at bs))
  unfolding entries_from
  split zero n k from es at all read =
      let z : ◌≡◌ {A = List Entry × ℕ} ([], from) (es, at) = answered_same refl read in
      let place : from ≡ at = ap (λ (x : List Entry × ℕ). x.1) z in
      let none : [] ≡ es = ap (λ (x : List Entry × ℕ). x.0) z in
      let count : n ≡ k = omega arith in
      rw (← none, place, count) (before_nothing (entries_from f k at (drop at bs)))
  split (suc i) zero k from es at all read = absurd (omega arith)
  split (suc i) (suc n) k from es at all read =
      go (λ taken more rest. split i n k (from + taken) more at (omega arith) rest) (entry_of f from (drop from bs)) refl read
    where
      rest : ℕ → Outcome (List Entry × ℕ)
      rest taken = entries_from f i (from + taken) (drop taken (drop from bs))

      -- the same of those after an entry of this size
      Later : Type 0
      Later =
          (taken : ℕ) (more : List Entry) → entries_from f i (from + taken) (drop (from + taken) bs) ≡ answered (more, at)
          → entries_from f n (from + taken) (drop (from + taken) bs) ≡ before more (entries_from f k at (drop at bs))

      after_one : Later → (x : Entry × ℕ) → entry_of f from (drop from bs) ≡ answered x
          → (o : Outcome (List Entry × ℕ)) → rest x.1 ≡ o → with_first x.0 o ≡ answered (es, at)
          → entries_from f (suc n) from (drop from bs) ≡ before es (entries_from f k at (drop at bs))
      after_one later x q (refused c) p t = absurd (answered_refused t refl)
      after_one later x q (answered more) p t =
          let same : ◌≡◌ {A = List Entry × ℕ} (x.0 ∷ more.0, more.1) (es, at) = answered_same refl t in
          let place : more.1 ≡ at = ap (λ (y : List Entry × ℕ). y.1) same in
          let whole : x.0 ∷ more.0 ≡ es = ap (λ (y : List Entry × ℕ). y.0) same in
          let read : entries_from f i (from + x.1) (drop (from + x.1) bs) ≡ answered (more.0, at) =
          rw (drop-drop x.1 from bs, place) at p in
          rw (q, drop-drop x.1 from bs, later x.1 more.0 read, ← whole)
          (first_before x.0 more.0 (entries_from f k at (drop at bs)))

      go : Later → (o : Outcome (Entry × ℕ)) → entry_of f from (drop from bs) ≡ o
          → and_then o (λ x. with_first x.0 (rest x.1)) ≡ answered (es, at)
          → entries_from f (suc n) from (drop from bs) ≡ before es (entries_from f k at (drop at bs))
      go later (refused c) q s = absurd (answered_refused s refl)
      go later (answered x) q s = after_one later x q (rest x.1) refl s

  -- so where an entry is turned back, all n are; and one that is read comes after them
  stops : (i n from : ℕ) (es : List Entry) (at : ℕ) → i < n → entries_from f i from (drop from bs) ≡ answered (es, at)
      → (k : Code) → entry_of f at (drop at bs) ≡ refused k → entries_from f n from (drop from bs) ≡ refused k
  unfolding entries_from
  stops i n from es at h read k r = split i n (suc (n - suc i)) from es at (omega arith) read ∙ rw r refl

  one_more : (i from : ℕ) (es : List Entry) (at : ℕ) → entries_from f i from (drop from bs) ≡ answered (es, at)
      → (e : Entry) (size : ℕ) → entry_of f at (drop at bs) ≡ answered (e, size)
      → entries_from f (suc i) from (drop from bs) ≡ answered (es ++ (e ∷ []), at + size)
  unfolding entries_from
  one_more i from es at read e size one = split i (suc i) 1 from es at (omega arith) read ∙ rw one refl

module _ (bs : List ℕ) where
  -- the header leaves the entries
  entries_next : HeaderReads bs → decode_of bs ≡ body_of bs
  unfolding decode_of opened_of
  entries_next s =
      let z = written (opening_written bs) refl in
      rw (le-ltb _ _ s.long, header_passes 2 _ _ s.header, le-ltb _ _ z.0, z.1, opening_passes 3 _ s.opens) refl
    where
      written : (t : Bool) → opening_written bs ≡ t → (entries_place bs ≤ length bs) × (zero_written bs ≡ false)
      written true e =
          let w = s.written e in
          let z : (frame_of bs).opening ≡ 0 → ⊥ = omega (arith, w.1) in
          (rw e w.0, rw (ne_eqb _ _ z, e) refl)
      written false e = (rw e s.long, rw e refl)

  turned : (k : Code) → decode_of bs ≡ refused k → read_of bs ≡ refused k
  unfolding read_of
  turned k e = rw e refl

  pub read_rows_law : ReadRowsLaw bs
  unfolding decode_of opened_of entries_from
  read_rows_law =
      record {
        short = λ h. turned _ (rw (lt-ltb _ _ h) refl);
        two = λ h z. turned _ (rw (le-ltb _ _ h, header_two 2 _ (count_of bs) z) refl);
        three = λ h some day many. turned _ (rw (le-ltb _ _ h, header_three 2 _ _ some day many) refl);
        no_minute = λ h header e short. turned _ (rw (le-ltb _ _ h, header_passes 2 _ _ header, e, lt-ltb _ _ short) refl);
        fifteen = fifteen;
        entry = λ s i h es at read k first.
            turned k
            (rw (entries_next s)
            (body_refused bs _ _ _ refl refl refl k
            (stops (frame_of bs) bs i (count_of bs) (entries_place bs) es at h read k (entry_row _ at _ k first))));
        begin = λ e. rw e refl;
        begin_later = λ e. rw e refl;
        next = λ i es at read taken.
            one_more (frame_of bs) bs i (entries_place bs) es at read _ _ (entry_taken (frame_of bs) at (drop at bs) taken);
        none = λ s es read apart.
            let kept : entries_of (day_list (frame_of bs) es) ≡ es = take-append_seam es _ in
            (read_law bs).apart (day_list (frame_of bs) es)
            (entries_next s ∙ body_done bs _ _ _ refl refl refl es (length bs) read (omega arith)) (rw kept apart);
        eight = λ s es at read h. turned _ (rw (entries_next s) (body_left bs _ _ _ refl refl refl es at read h));
      }
    where
      fifteen : Header (frame_of bs).h (count_of bs) → opening_written bs ≡ true → 5 ≤ length bs
          → ((frame_of bs).opening ≡ 0) ⊎ ((frame_of bs).h ≤ (frame_of bs).opening) → read_of bs ≡ refused (code 15 (3 ∷ []))
      fifteen header e h which =
          turned _ (rw (le-ltb _ _ (let z : 3 ≤ length bs = omega arith in z), header_passes 2 _ _ header, le-ltb _ _ place) (go which))
        where
          place : entries_place bs ≤ length bs
          place = rw e h

          go : ((frame_of bs).opening ≡ 0) ⊎ ((frame_of bs).h ≤ (frame_of bs).opening)
              → cond (zero_written bs) (refused (code 15 (3 ∷ []))) (and_then (opening_fault 3 (frame_of bs)) (λ _. body_of bs))
              ≡ refused (code 15 (3 ∷ []))
          go (inl z) = let zero_is : zero_written bs ≡ true = rw (eq-eqb _ _ z, e) refl in rw zero_is refl
          go (inr late) =
              let z : (frame_of bs).opening ≡ 0 → ⊥ = omega (arith, header.some_minutes) in
              let later : zero_written bs ≡ false = rw (ne_eqb _ _ z, e) refl in
              rw (later, opens_late 3 (frame_of bs) late) refl
