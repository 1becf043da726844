-- Rows 17 and 18, in facts.
-- Assumes nothing.
use mathlib.Core.Path.{refl}
use Prim.Native.Nat.{ℕ}
use Rattle.list.specs.declared.types.Entry.{Entry}
use Rattle.commits.specs.Laws.{StampLaw}
use Rattle.commits.specs.declared.types.StampedDay.{StampedDay}
use Rattle.commits.proofs.RowFacts.{ask_room, ask_full, stamp_right, stamp_stale}

pub stamp_law : (d : StampedDay) (e : Entry) (s room : ℕ) → StampLaw d e s room
stamp_law d e s room =
    record {
      stale = λ z. rw (stamp_stale d s z) refl;
      as_asked = λ q. rw (stamp_right d s q) refl;
      full = λ h. rw (ask_full d h) refl;
      longer = λ h. rw (ask_room d h) refl;
    }
