-- The rows of writing, and what the buffer holds then, in facts.
-- Assumes nothing.
use mathlib.Core.Path.{◌≡◌, refl}
use mathlib.Core.List.{List}
use Prim.Native.Nat.{ℕ}
use borrow.Author.Tests.{lt-ltb}
use lib.ListN.{length}
use Rattle.base.specs.Outcomes.{answered}
use Rattle.list.specs.declared.types.DayList.{DayList}
use Rattle.format.specs.Writing.{bytes_of, write_of}
use Rattle.format.specs.Laws.{WriteLaw}
use Rattle.format.proofs.WriteCases.{list_written}
use Rattle.format.proofs.RoundTrip.{write_says}

module _ (l : DayList) (old : List ℕ) where
  count_is : (count : ℕ) → write_of l (length old) ≡ answered count → count ≡ length (bytes_of l)
  count_is count e = (rw e at (write_says l (length old))).1

  pub write_law : WriteLaw l old
  unfolding write_of
  write_law =
      record {
        before = λ k e. rw e refl;
        short = λ w h. rw (w, lt-ltb _ _ h) refl;
        fits = λ w h. list_written l (length old) w h;
        stays = λ k e. rw e refl;
        written = λ count e. rw (e, count_is count e) refl;
      }
