-- What a plan buffer holds in which a plan was stored.
-- Assumes nothing.
use mathlib.Core.Path.{◌≡◌, sym, ◌∙◌}
use mathlib.Core.List.{List, ◌++◌}
use Prim.Native.Nat.{ℕ, ◌≤◌}
use borrow.Author.Tests.{le-ltb}
use lib.ListN.{length, drop}
use lib.Seq.{length-take-le, length_front}
use Rattle.std.specs.Prelude.{Result}
use Rattle.list.specs.declared.types.Refusal.{Refusal}
use Rattle.windows.specs.Windows.{Windows}
use Rattle.jackson.specs.Minutes.{schedule}
use Rattle.jackson.specs.Calls.{FillsWindows}

-- a buffer in which a plan of h bytes was stored is as long as before
pub stored_long : (h : ℕ) (xs old new : List ℕ) → new ≡ xs ++ drop h old → length xs ≡ h → h ≤ length old → length new ≡ length old
stored_long h xs old new e long room = rw e (length_front old xs h (long ∙ sym (length-take-le h old room)))

-- a plan buffer that is long enough holds the schedule
pub filled_with : (w : Windows) (old : List ℕ) (v : Result (Unit {0}) Refusal) (new : List ℕ) → FillsWindows w old v new → w.h ≤ length old
    → new ≡ schedule w ++ drop w.h old
filled_with w old v new fills room = rw (le-ltb (length old) w.h room) at fills.buffer
