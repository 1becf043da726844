-- What the machine's types say of a list value that is handed over, from what owning it tells.
-- Assumes nothing.
use mathlib.Core.Path.{◌≡◌}
use mathlib.Core.List.{List, [], ◌∷◌}
use Prim.Native.Nat.{ℕ, zero, suc, ◌^◌, ◌<◌}
use native.Mathlib.Omega.{arith}
use lib.ListN.{length, get_or}
use mir.Val.{Val}
use denote.Array.{each}
use denote.Builtin.{u32}
use denote.Shadow.{shadow}
use Rattle.list.specs.DayLists.{blank}
use Rattle.list.specs.Machine.{SealFits, MinutesFit, Typed}
use Rattle.std.specs.Prelude.{None, Option, Some}
use Rattle.std.specs.contracts.option.Option.{the_field}
use Rattle.list.specs.declared.types.Entry.{Entry}
use Rattle.list.specs.declared.types.DayList.{DayList}
use Rattle.list.specs.contracts.types.Entry.{the_row}

-- each entry's values are of their types
abbrev pub Owned : List Entry → List Val → Type 0
Owned es us = shadow (each the_row.Denot the_row.own_val es us)

pub each_serial : (es : List Entry) (us : List Val) → Owned es us → (i : ℕ) → (get_or es i blank).serial < 2 ^ 32
each_serial [] us s i = omega arith
each_serial (e ∷ es) [] s i = absurd s
each_serial (e ∷ es) (u ∷ us) s zero = s.0.1.1.0.1
each_serial (e ∷ es) (u ∷ us) s (suc i) = each_serial es us s.1 i

seal_fits : (x : Option ℕ) (vs : List Val) → shadow ((the_field u32).row.own_val ((the_field u32).into x) vs) → SealFits x
seal_fits None vs s = tt
seal_fits (Some x) vs s = s.1.1.1.1.0.1

pub each_seal : (es : List Entry) (us : List Val) → Owned es us → (i : ℕ) → SealFits (get_or es i blank).seal
each_seal [] us s i = tt
each_seal (e ∷ es) [] s i = absurd s
each_seal (e ∷ es) (u ∷ us) s zero = seal_fits e.seal _ s.0.1.1.1.0
each_seal (e ∷ es) (u ∷ us) s (suc i) = each_seal es us s.1 i

pub each_minutes : (es : List Entry) (us : List Val) → Owned es us → (i : ℕ) → MinutesFit (get_or es i blank)
each_minutes [] us s i = record { r = omega arith; d = omega arith; p = omega arith }
each_minutes (e ∷ es) [] s i = absurd s
each_minutes (e ∷ es) (u ∷ us) s zero =
    record { r = s.0.1.1.1.1.0.1; d = s.0.1.1.1.1.1.0.1; p = s.0.1.1.1.1.1.1.0.1 }
each_minutes (e ∷ es) (u ∷ us) s (suc i) = each_minutes es us s.1 i

-- a list value that is owned is of its type
pub owned_typed : (l : DayList) → length l.entries ≡ 64 → (us : List Val) → Owned l.entries us → Typed l
owned_typed l long us s =
    record {
      long = long;
      serial = each_serial l.entries us s;
      seal = each_seal l.entries us s;
    }
