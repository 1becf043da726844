-- Rows 15 and 16 of the value check, in facts.
-- Assumes nothing.
use mathlib.Core.Path.{◌≡◌, refl, ap, subst}
use mathlib.Core.List.{List, [], ◌∷◌}
use Prim.Native.Nat.{ℕ, ◌<◌, ◌≤◌}
use native.Mathlib.Omega.{arith}
use lib.ListN.{length, get_or}
use Rattle.base.specs.Outcomes.{Code, code}
use Rattle.list.specs.DayLists.{entries_of, blank, always_open}
use Rattle.list.specs.Checks.{check_of, WellFormed}
use Rattle.list.specs.Laws.{OpensInTime, OpeningLaw}
use Rattle.list.specs.declared.types.Entry.{Entry}
use Rattle.list.specs.declared.types.Frame.{Frame}
use Rattle.list.specs.declared.types.DayList.{DayList}
use Rattle.base.proofs.Inversion.{Says}
use Rattle.list.proofs.Sound.{check_tells, every_at_places, sound_list, sound_at, list_apart, well_formed}

module _ (l : DayList) where
  abbrev f : Frame
  f = l.frame

  abbrev es : List Entry
  es = entries_of l

  opened : WellFormed l → WellFormed (always_open l) × OpensInTime l
  opened w =
      let s = sound_list l w in (
        well_formed (always_open l)
            (record {
              header = s.header;
              opening = s.header.some_minutes;
              entries = every_at_places _ es (λ i h. let e = sound_at l w i h in
                  record { opened = omega arith; some_minutes = e.some_minutes; in_day = e.in_day; room = e.room });
            })
            (list_apart l w),
        record { in_day = s.opening; entries = λ i h. (sound_at l w i h).opened },
      )

  closed : WellFormed (always_open l) × OpensInTime l → WellFormed l
  closed (w, o) =
      let s = sound_list (always_open l) w in
      well_formed l
      (record {
        header = s.header;
        opening = o.in_day;
        entries = every_at_places _ es (λ i h. let e = sound_at (always_open l) w i h in
            record { opened = o.entries i h; some_minutes = e.some_minutes; in_day = e.in_day; room = e.room });
      })
      (list_apart (always_open l) w)

  -- an entry comes before the room opens
  abbrev Before : ℕ → Type 0
  Before i = (i < length es) × ((get_or es i blank).r < f.opening)

  -- what holds of a refusal, if it is 15 or 16
  abbrev Told : Code → Type 0
  Told x = ((at : ℕ) → x ≡ code 15 (at ∷ []) → f.h ≤ f.opening) × ((i : ℕ) → x ≡ code 16 (i ∷ []) → Before i)

  told : Says (λ _. WellFormed l) Told (check_of l)
  told =
      check_tells l Told
      (λ n x h. (λ at q. absurd (omega (arith, h, number q)), λ i q. absurd (omega (arith, h, number q))))
      (λ h. (λ _ _. h, λ i q. absurd (omega (arith, number q))))
      (λ i h r. (λ at q. absurd (omega (arith, number q)), λ k q. let z : i ≡ k = omega (arith, place q) in subst Before z (h, r)))
      (λ _ _. (λ at q. absurd (omega (arith, number q)), λ i q. absurd (omega (arith, number q))))
    where
      number : {n m x y : ℕ} → code n (x ∷ []) ≡ code m (y ∷ []) → n ≡ m
      number q = ap (λ (x : Code). x.number) q

      place : {n m x y : ℕ} → code n (x ∷ []) ≡ code m (y ∷ []) → x ≡ y
      place q = ap (λ (x : Code). get_or x.carries 0 0) q

  pub opening_law : OpeningLaw l
  opening_law =
      record {
        accepted = (opened, closed);
        fifteen = λ at e. (rw e at told).0 at refl;
        sixteen = λ i e. (rw e at told).1 i refl;
      }
