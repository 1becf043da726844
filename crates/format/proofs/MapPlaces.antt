-- The places of map bytes: where reading the entries before one ends, and where their one forms do.
-- Assumes nothing.
use mathlib.Core.Path.{◌≡◌, refl, ap, ◌∙◌, subst}
use mathlib.Core.List.{List, ◌∷◌}
use Prim.Native.Nat.{ℕ, zero, suc, ◌+◌, ◌≤◌, ◌<◌}
use native.Mathlib.Omega.{arith}
use lib.ListN.{length, get_or, take, drop, length-append, length-drop}
use lib.Seq.{drop-drop}
use Rattle.base.specs.Outcomes.{Outcome, answered, refused, and_then}
use Rattle.base.proofs.Inversion.{answered_same, answered_refused}
use Rattle.list.specs.Machine.{Bytes}
use Rattle.list.specs.DayLists.{blank}
use Rattle.list.specs.declared.types.Entry.{Entry}
use Rattle.list.specs.declared.types.Frame.{Frame}
use Rattle.format.specs.EntryFields.{entry_of}
use Rattle.format.specs.Reading.{entries_from}
use Rattle.format.specs.Writing.{bytes_of_entries}
use Rattle.format.proofs.FieldTrip.{bytes_drop}
use Rattle.format.proofs.EntryTrip.{TakenEntry, entry_says}
use Rattle.format.proofs.ListTrip.{TakenEntries, entries_say}

module _ (f : Frame) (bs : List ℕ) where
  -- the entry i of es, read from place at on: where the entries before it end, and that it was read there
  pub record ReadFrom (at : ℕ) (es : List Entry) (i : ℕ) : Type 0 where
    pub place : ℕ
    pub size : ℕ
    pub before : entries_from f i at (drop at bs) ≡ answered (take i es, place)
    pub here : entry_of f place (drop place bs) ≡ answered (get_or es i blank, size)

  -- the first entry
  first_here : (at size : ℕ) (e : Entry) (es : List Entry) → entry_of f at (drop at bs) ≡ answered (e, size) → ReadFrom at (e ∷ es) 0
  unfolding entries_from
  first_here at size e es one = record { place = at; size = size; before = refl; here = one }

  -- one after it
  first_then : (at size : ℕ) (e : Entry) (es : List Entry) (i : ℕ) → entry_of f at (drop at bs) ≡ answered (e, size)
      → ReadFrom (at + size) es i
      → ReadFrom at (e ∷ es) (suc i)
  unfolding entries_from
  first_then at size e es i one rest =
      record {
        place = rest.place;
        size = rest.size;
        before = rw (one, drop-drop size at bs, rest.before) refl;
        here = rest.here;
      }

  -- one entry and k more, where each of those is read
  module _ (k at : ℕ) (es : List Entry) (end : ℕ) where
    abbrev rest : ℕ → Outcome (List Entry × ℕ)
    rest size = entries_from f k (at + size) (drop size (drop at bs))

    -- those after the first one
    abbrev after : Entry × ℕ → Outcome (List Entry × ℕ) → Outcome (List Entry × ℕ)
    after one o = and_then o (λ more. answered (one.0 ∷ more.0, more.1))

    read_next : (o : Outcome (Entry × ℕ)) → entry_of f at (drop at bs) ≡ o
        → and_then o (λ one. after one (rest one.1)) ≡ answered (es, end)
        → ((size : ℕ) (more : List Entry × ℕ) → rest size ≡ answered more → (i : ℕ) → i < k → ReadFrom (at + size) more.0 i)
        → (i : ℕ) → i < suc k → ReadFrom at es i
    read_next (refused x) q r each = absurd (answered_refused r refl)
    read_next (answered one) q r each = go (rest one.1) refl r
      where
        go : (o : Outcome (List Entry × ℕ)) → rest one.1 ≡ o → after one o ≡ answered (es, end)
            → (i : ℕ) → i < suc k → ReadFrom at es i
        go (refused x) s t = absurd (answered_refused t refl)
        go (answered more) s t =
            let is : one.0 ∷ more.0 ≡ es = ap (λ (y : List Entry × ℕ). y.0) (answered_same refl t) in
            elim [
              | zero ↦ λ l. subst (λ ys. ReadFrom at ys 0) is (first_here at one.1 one.0 more.0 q)
              | suc j ↦ λ l.
                  let later = each one.1 more s j (omega arith) in
                  subst (λ ys. ReadFrom at ys (suc j)) is (first_then at one.1 one.0 more.0 j q later)
            ]

  -- each of k entries that are read
  pub each_read : (k at : ℕ) (es : List Entry) (end : ℕ) → entries_from f k at (drop at bs) ≡ answered (es, end) → (i : ℕ) → i < k
      → ReadFrom at es i
  unfolding entries_from
  each_read zero at es end e = λ i h. absurd (omega arith)
  each_read (suc k) at es end e =
      read_next k at es end (entry_of f at (drop at bs)) refl e
      (λ size more s. each_read k (at + size) more.0 more.1 (rw (drop-drop size at bs) at s))

-- the entry lies inside the input, and it begins where the one forms of those before it end
module _ (f : Frame) (bs : List ℕ) (from : ℕ) (es : List Entry) (i : ℕ) (read : ReadFrom f bs from es i) where
  pub map_inside : read.place < length bs
  map_inside =
      let rest = drop read.place bs in
      let taken : TakenEntry f rest (get_or es i blank, read.size) = rw read.here at (entry_says f read.place rest _ refl) in
      omega (arith, taken.within, taken.some, length-drop read.place bs)

  pub map_form : from ≤ length bs → Bytes bs → from + length (bytes_of_entries f (take i es)) ≡ read.place
  map_form long b =
      let body = drop from bs in
      let all : from + length body ≡ length bs = omega (arith, length-drop from bs) in
      let taken : TakenEntries f i body (length bs) (take i es, read.place) =
      rw read.before at (entries_say f i from body (length bs) all) in
      let form : length body ≡ length (bytes_of_entries f (take i es)) + length taken.rest =
      ap length (taken.form (bytes_drop bs from b)) ∙ length-append (bytes_of_entries f (take i es)) taken.rest in
      omega (arith, form, taken.left, all)
