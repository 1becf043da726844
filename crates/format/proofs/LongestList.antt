-- The longest one form of a list.
-- Assumes nothing.
use mathlib.Core.Path.{◌≡◌, refl, ap}
use mathlib.Core.List.{List, [], ◌∷◌}
use Prim.Native.Nat.{ℕ, zero, suc, ◌-◌, ◌≤◌, ◌<◌}
use native.Mathlib.Omega.{arith}
use lib.ListN.{length, get_or, replicate}
use lib.Seq.{take-append_seam}
use Rattle.list.specs.Entries.{entry_fault}
use Rattle.format.specs.Forms.{entry_bytes}
use Rattle.format.specs.Headers.{header_bytes}
use Rattle.list.specs.DayLists.{entries_of, blank, day_list}
use Rattle.list.specs.Clashes.{Apart}
use Rattle.list.specs.Checks.{WellFormed, header_fault, opening_fault, entries_fault, values_fault}
use Rattle.format.specs.Writing.{bytes_of_entries, bytes_of, longest_list}
use Rattle.std.specs.Prelude.{Some}
use Rattle.list.specs.declared.types.Kind.TheVariants.{Pause}
use Rattle.list.specs.declared.types.Entry.{Entry}
use Rattle.list.specs.declared.types.DayList.{DayList}
use Rattle.list.proofs.Sound.{values_apart}
use Rattle.format.proofs.WriteCases.{list_short, form_fits}

-- no list's one form is longer
pub longest : (l : DayList) → WellFormed l → length (bytes_of l) ≤ longest_list
longest l w = list_short l (form_fits l w)

-- k entries that write all their fields, no two of one serial
full_entries : ℕ → List Entry
full_entries zero = []
full_entries (suc k) = record { serial = k; seal = Some 0; r = 2; d = 3; p = 1; kind = Pause } ∷ full_entries k

full_length : (k : ℕ) → length (full_entries k) ≡ k
unfolding full_entries
full_length zero = refl
full_length (suc k) = ap suc (full_length k)

full_serial : (k i : ℕ) → i < k → (get_or (full_entries k) i blank).serial ≡ k - suc i
unfolding full_entries
full_serial zero i h = absurd (omega arith)
full_serial (suc k) zero h = omega arith
full_serial (suc k) (suc i) h = omega (arith, full_serial k i (omega arith))

full_apart : (k : ℕ) → Apart (full_entries k)
full_apart k i j c =
    let later : j < k = omega (arith, c.in_list, full_length k) in
    let earlier : i < k = omega (arith, c.earlier, later) in
    omega (arith, c.serial, full_serial k i earlier, full_serial k j later, c.earlier, later)

-- 64 of them, in a room that opens after midnight
fullest : DayList
fullest = day_list (record { h = 1440; opening = 1 }) (full_entries 64)

fullest_apart : Apart (entries_of fullest)
unfolding fullest
fullest_apart = rw (take-append_seam (full_entries 64) (replicate (64 - length (full_entries 64)) blank)) (full_apart 64)

-- some list's one form is as long
pub longest_reached : (l : DayList) × WellFormed l × (length (bytes_of l) ≡ longest_list)
unfolding fullest full_entries values_fault header_fault opening_fault entries_fault entry_fault bytes_of header_bytes bytes_of_entries
    entry_bytes
longest_reached = (fullest, values_apart fullest refl fullest_apart, refl)
