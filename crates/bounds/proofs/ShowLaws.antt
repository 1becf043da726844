-- The rows of a shown plan, in facts.
-- Assumes nothing.
use mathlib.Core.Path.{refl}
use Prim.Native.Nat.{ℕ}
use borrow.Author.Tests.{lt-ltb, le-ltb, le-leb, lt-leb}
use Rattle.windows.specs.Windows.{Windows}
use Rattle.bounds.specs.Calls.{show_rows, ShowLaw}

pub show_law : (w : Windows) (k room : ℕ) → ShowLaw w k room
unfolding show_rows
show_law w k room =
    record {
      before = λ c e. rw e refl;
      unknown = λ e h. rw (e, le-leb _ _ h) refl;
      short = λ e p h. rw (e, lt-leb _ _ p, lt-ltb _ _ h) refl;
      none = λ e p h. rw (e, lt-leb _ _ p, le-ltb _ _ h) refl;
    }
