-- The mirrored list: its windows are the mirrored ones, its boxes stay, and the value check accepts it if it accepts the list.
-- Assumes nothing.
use mathlib.Core.Path.{◌≡◌, refl, sym, ap, ◌∙◌}
use mathlib.Core.List.{List, map}
use Prim.Native.Nat.{ℕ, suc, ◌-◌, ◌<◌, ◌≤◌}
use native.Mathlib.Omega.{arith}
use borrow.Author.Tests.{lt-ltb, le-ltb}
use lib.ListN.{length, get_or, length-map, length-take, get_or-eq_default}
use lib.Seq.{take-append_seam}
use Rattle.base.proofs.Sums.{le_or_lt}
use Rattle.base.proofs.Walk.{mapped_at}
use Rattle.list.specs.DayLists.{entries_of, blank, SameBox}
use Rattle.list.specs.Clashes.{InWindow}
use Rattle.list.specs.Checks.{WellFormed}
use Rattle.list.specs.declared.types.Entry.{Entry}
use Rattle.list.specs.declared.types.Frame.{Frame}
use Rattle.list.specs.declared.types.DayList.{DayList}
use Rattle.list.proofs.ClashFacts.{clash_carried}
use Rattle.list.specs.Laws.{Sound}
use Rattle.list.proofs.Sound.{every_at_places, sound_list, sound_at, list_apart, well_formed}
use Rattle.windows.specs.Windows.{windows_of}
use Rattle.windows.specs.Mirrors.{mirror, mirror_entry, mirror_list}
use Rattle.windows.specs.Laws.{MirrorLaw}
use Rattle.windows.proofs.EntryWindows.{WindowAt, windows_at}

-- the mirror of an entry is sound, in a room that is open all day
mirror_sound : (f g : Frame) (e : Entry) → g.h ≡ f.h → g.opening ≡ 0 → Sound f e → Sound g (mirror_entry f.h e)
mirror_sound f g e same always s =
    record {
      opened = omega (arith, always);
      some_minutes = s.some_minutes;
      in_day = omega (arith, same);
      room = omega (arith, s.room, s.in_day);
    }

module _ (l : DayList) where
  abbrev h : ℕ
  h = l.frame.h

  abbrev es : List Entry
  es = entries_of l

  entries_are : entries_of (mirror_list l) ≡ map (mirror_entry h) es
  entries_are = take-append_seam (map (mirror_entry h) es) _

  count_is : length (entries_of (mirror_list l)) ≡ length es
  count_is = ap length entries_are ∙ length-map es (mirror_entry h)

  entry_is : (i : ℕ) → i < length es → get_or (entries_of (mirror_list l)) i blank ≡ mirror_entry h (get_or es i blank)
  entry_is i place = ap (λ (xs : List Entry). get_or xs i blank) entries_are ∙ mapped_at (mirror_entry h) es blank blank i place

  -- from place n on there are none
  past : (i : ℕ) → length es ≤ i → get_or (entries_of (mirror_list l)) i blank ≡ get_or es i blank
  past i over =
      get_or-eq_default (entries_of (mirror_list l)) blank (omega (arith, count_is)) ∙ sym (get_or-eq_default es blank over)

  windows_are : windows_of (mirror_list l) ≡ mirror (windows_of l)
  windows_are = windows_at (mirror_list l) (mirror (windows_of l)) refl count_is each
    where
      each : (i : ℕ) → WindowAt (get_or (entries_of (mirror_list l)) i blank) (mirror (windows_of l)) i
      each i =
          le_or_lt (length es) i
          (λ over. let z = le-ltb i (length es) over in let q = past i over in record { r = rw (q, z); d = rw (q, z); p = rw q })
          (λ place. let z = lt-ltb i (length es) place in let q = entry_is i place in record { r = rw (q, z); d = rw (q, z); p = rw q })

  -- the boxes stay at their places
  boxes_are : (i : ℕ) → SameBox (get_or (entries_of (mirror_list l)) i blank) (get_or es i blank)
  boxes_are i =
      le_or_lt (length es) i
      (λ over. rw (past i over) (record { serial = refl; seal = refl; p = refl; kind = refl }))
      (λ place. rw (entry_is i place) (record { serial = refl; seal = refl; p = refl; kind = refl }))

  mirror_formed : WellFormed l → WellFormed (mirror_list l)
  mirror_formed formed =
      let given = sound_list l formed in
      well_formed (mirror_list l)
      (record {
        header =
            record {
              some_minutes = given.header.some_minutes;
              one_day = given.header.one_day;
              room = omega (arith, given.header.room, length-map es (mirror_entry h), length-take l.n l.entries);
            };
        opening = given.header.some_minutes;
        entries = every_at_places _ (entries_of (mirror_list l)) sound;
      })
      (λ i k c. list_apart l formed i k (clash_carried (entries_of (mirror_list l)) es count_is serials (λ t. h - suc t) back i k c))
    where
      sound : (i : ℕ) → i < length (entries_of (mirror_list l)) → Sound (mirror_list l).frame (get_or (entries_of (mirror_list l)) i blank)
      sound i h =
          let place : i < length es = omega (arith, h, count_is) in
          rw (entry_is i place) (mirror_sound l.frame (mirror_list l).frame (get_or es i blank) refl refl (sound_at l formed i place))

      serials : (i : ℕ) → i < length es → (get_or (entries_of (mirror_list l)) i blank).serial ≡ (get_or es i blank).serial
      serials i place = ap (λ (e : Entry). e.serial) (entry_is i place)

      -- minute t of the mirrored window is minute h - 1 - t of the window
      back : (i : ℕ) → i < length es → (t : ℕ) → InWindow (get_or (entries_of (mirror_list l)) i blank) t
          → InWindow (get_or es i blank) (h - suc t)
      back i place t w =
          let s = sound_at l formed i place in
          let z : InWindow (mirror_entry h (get_or es i blank)) t = rw (entry_is i place) at w in
          (omega (arith, z.0, z.1, s.in_day, s.room), omega (arith, z.0, z.1, s.in_day, s.room))

-- the law holds of every list
pub mirror_law : (l : DayList) → MirrorLaw l
mirror_law l = record { opening = refl; windows = windows_are l; boxes = boxes_are l; formed = mirror_formed l }
