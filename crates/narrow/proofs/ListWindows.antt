-- The list with other windows: its windows, its kinds, and that it passes the value check.
-- Assumes nothing.
use mathlib.Core.Path.{◌≡◌, refl, sym, ap, ◌∙◌, fun_ext}
use Prim.Native.Nat.{ℕ, ◌<◌, ◌≤◌}
use native.Mathlib.Omega.{arith}
use lib.ListN.{length, get_or, length-take, get_or-eq_default}
use Rattle.list.specs.DayLists.{entries_of, blank, is_whole, whole_in, SameBox}
use Rattle.list.specs.Clashes.{InWindow}
use Rattle.list.specs.Checks.{WellFormed}
use Rattle.list.specs.declared.types.Entry.{Entry}
use Rattle.list.specs.declared.types.DayList.{DayList}
use Rattle.list.proofs.ClashFacts.{clash_carried}
use Rattle.list.specs.Laws.{Sound}
use Rattle.list.proofs.Sound.{every_at_places, sound_list, sound_at, list_apart, well_formed}
use Rattle.windows.specs.Windows.{Windows, windows_of}
use Rattle.windows.proofs.EntryWindows.{WindowAt, windows_at}
use Rattle.base.proofs.Sums.{le_or_lt}
use Rattle.narrow.specs.Calls.{list_with}
use Rattle.narrow.proofs.StepsKeep.{Keeps, keeps_h, keeps_n, keeps_p}
use Rattle.narrow.proofs.Alike.{with_length, listed_entry, listed_count}

pub listed_frame : (l : DayList) (w : Windows) → (list_with l w).frame ≡ l.frame
unfolding list_with
listed_frame l w = refl

-- The windows of the list that is answered.
module _ (l : DayList) (w : Windows) (keeps : Keeps (windows_of l) w) where
  past_places : (i : ℕ) → (windows_of l).n ≤ i
      → (get_or (entries_of (list_with l w)) i blank ≡ blank) × (get_or (entries_of l) i blank ≡ blank)
  past_places i h = (
    get_or-eq_default (entries_of (list_with l w)) blank (omega (arith, listed_count l w)),
    get_or-eq_default (entries_of l) blank h,
  )

  pub listed_windows : windows_of (list_with l w) ≡ w
  unfolding list_with
  listed_windows = windows_at (list_with l w) w (sym (keeps_h keeps)) (listed_count l w ∙ sym (keeps_n keeps)) each
    where
      at : (e e' : Entry) → e ≡ e' → (i : ℕ) → e'.r ≡ w.r i → e'.d ≡ w.d i → e'.p ≡ w.p i → WindowAt e w i
      at e e' q i r d p =
          record { r = ap (λ (x : Entry). x.r) q ∙ r; d = ap (λ (x : Entry). x.d) q ∙ d; p = ap (λ (x : Entry). x.p) q ∙ p }

      each : (i : ℕ) → WindowAt (get_or (entries_of (list_with l w)) i blank) w i
      each i =
          le_or_lt (windows_of l).n i
          (λ h. at _ (get_or (entries_of l) i blank) ((past_places i h).0 ∙ sym (past_places i h).1) i
          (sym (keeps.past i h).0) (sym (keeps.past i h).1) (sym (keeps_p keeps i)))
          (λ h. at _ _ (listed_entry l w i h) i refl refl (sym (keeps_p keeps i)))

  -- the boxes stay at their places
  pub listed_boxes : (i : ℕ) → SameBox (get_or (entries_of (list_with l w)) i blank) (get_or (entries_of l) i blank)
  listed_boxes i =
      le_or_lt (windows_of l).n i
      (λ h. rw ((past_places i h).0 ∙ sym (past_places i h).1) (record { serial = refl; seal = refl; p = refl; kind = refl }))
      (λ h. rw (listed_entry l w i h) (record { serial = refl; seal = refl; p = refl; kind = refl }))

  -- so the same entries are whole
  pub listed_whole : whole_in (list_with l w) ≡ whole_in l
  listed_whole = fun_ext (λ i. ap is_whole (listed_boxes i).kind)

  -- it passes the value check, if the list given does
  pub listed_formed : WellFormed l → WellFormed (list_with l w)
  unfolding list_with
  listed_formed formed =
      let given = (sound_list l formed).header in
      well_formed (list_with l w)
      (record {
        header =
            record {
              some_minutes = given.some_minutes;
              one_day = given.one_day;
              room = omega (arith, given.room, with_length w 0 (entries_of l), length-take l.n l.entries);
            };
        opening = (sound_list l formed).opening;
        entries = every_at_places _ (entries_of (list_with l w)) sound;
      })
      (λ i k c. list_apart l formed i k
      (clash_carried (entries_of (list_with l w)) (entries_of l) (listed_count l w) serials (λ t. t) within i k c))
    where
      serials : (i : ℕ) → i < length (entries_of l)
          → (get_or (entries_of (list_with l w)) i blank).serial ≡ (get_or (entries_of l) i blank).serial
      serials i place = ap (λ (e : Entry). e.serial) (listed_entry l w i place)

      -- a minute of the narrower window lies in the one given
      within : (i : ℕ) → i < length (entries_of l) → (t : ℕ) → InWindow (get_or (entries_of (list_with l w)) i blank) t
          → InWindow (get_or (entries_of l) i blank) t
      within i place t h =
          let z : (w.r i ≤ t) × (t < w.d i) = rw (listed_entry l w i place) at h in
          (omega (arith, keeps.inside.r i place, z.0), omega (arith, keeps.inside.d i place, z.1))

      sound : (i : ℕ) → i < length (entries_of (list_with l w)) → Sound l.frame (get_or (entries_of (list_with l w)) i blank)
      sound i h =
          let given : i < length (entries_of l) = omega (arith, h, listed_count l w) in
          let place : i < w.n = omega (arith, keeps_n keeps) in
          rw (listed_entry l w i given)
          (record {
            opened = omega (arith, keeps.inside.r i given, (sound_at l formed i given).opened);
            some_minutes = omega (arith, keeps.formed.minutes i place, keeps_p keeps i);
            in_day = omega (arith, keeps.formed.in_day i place, keeps_h keeps);
            room = omega (arith, keeps.formed.room i place, keeps_p keeps i);
          })
