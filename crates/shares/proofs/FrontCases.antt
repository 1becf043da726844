-- Reading a share, case by case: row 8 tells where the list ends.
-- Assumes nothing.
use mathlib.Core.Path.{◌≡◌, ap, ◌∙◌}
use mathlib.Core.List.{List}
use Prim.Native.Nat.{ℕ}
use lib.ListN.{length, take}
use Rattle.std.specs.Prelude.{Result}
use Rattle.base.specs.Outcomes.{Outcome}
use Rattle.list.specs.Machine.{Bytes}
use Rattle.list.specs.Refusals.{outcome_of}
use Rattle.list.specs.declared.types.DayList.{DayList}
use Rattle.list.specs.declared.types.Refusal.{Refusal}
use Rattle.format.specs.Reading.{read_of}
use Rattle.format.specs.Calls.{Reads}
use Rattle.shares.specs.Calls.{ReadsFront}
use Rattle.shares.specs.Internal.{read_end}
use Rattle.shares.proofs.FrontLaws.{EndsAt, ends_at, front_law}

pub reader_end : (bs : List ℕ) (a : Result DayList Refusal) (e : ℕ) → Bytes bs → Reads bs a → e ≡ read_end (outcome_of a) (length bs)
    → EndsAt bs e
reader_end bs a e b reads is =
    let z : e ≡ read_end (read_of bs) (length bs) = is ∙ ap (λ (o : Outcome DayList). read_end o (length bs)) reads.outcome in
    rw z (ends_at bs b)

pub front_read : (bs : List ℕ) (e : ℕ) (a : Result DayList Refusal) → Bytes bs → EndsAt bs e → Reads (take e bs) a → ReadsFront bs a
front_read bs e a b ends reads = record { outcome = reads.outcome ∙ ends.read; law = front_law bs b }
