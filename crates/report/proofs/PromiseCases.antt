-- The promises of `report` and `refusal_line`, from the cases that code knows.
-- Assumes nothing.
use mathlib.Core.Path.{◌≡◌, refl, sym}
use mathlib.Core.List.{List, []}
use Prim.Native.Nat.{ℕ, ◌^◌, ◌≤◌, ◌<◌}
use native.Mathlib.Omega.{arith}
use borrow.Author.Tests.{lt-ltb}
use lib.ListN.{length, get_or}
use Rattle.base.specs.Outcomes.{answered, refused}
use Rattle.list.specs.Refusals.{code_of}
use Rattle.list.specs.Machine.{Bytes}
use Rattle.list.specs.declared.types.Refusal.{Refusal}
use Rattle.list.specs.declared.types.Refusal.TheVariants.{ListBufferShort}
use Rattle.std.specs.Prelude.{Err, Ok, Result}
use Rattle.codes.specs.declared.RefusalCode.{RefusalCode}
use Rattle.report.specs.Reports.{report_of}
use Rattle.report.specs.Calls.{StoresText, enough, Reports, line_of, line_enough, StoresLine}
use Rattle.report.specs.Internal.{Puts, PutsOr}
use Rattle.report.proofs.LineLengths.{refusal_short}
use Rattle.report.proofs.Lengths.{report_short}
use Rattle.report.proofs.FirstBytes.{same_report}

-- a buffer with no room for a text: row 12
pub store_short : (text old : List ℕ) → length old < length text
    → StoresText (answered text) old (Err (ListBufferShort (length text))) old
store_short text old h =
    let less = lt-ltb (length old) (length text) h in
    record { outcome = rw less refl; buffer = rw less refl }

-- a text that was put in an empty buffer with room for it
made_is : {room : ℕ} {text made : List ℕ} → length text ≤ room → Puts room [] text made → text ≡ made
made_is fits p = sym (p.put (omega (arith, fits)))

-- `report`: the list was refused, or its text was put in a buffer that has room for every one, and stored.
module _ (bs : List ℕ) (is : Bytes bs) where
  pub report_refused : (x : Refusal) → report_of bs ≡ refused (code_of x) → (old : List ℕ) (b : Result ℕ Refusal) → b ≡ Err x
      → Reports bs old b old
  report_refused x turned old b e =
      record {
        stores = record { outcome = rw (turned, e) refl; buffer = rw turned refl };
        room = report_short bs is;
        first_bytes = λ limit more input. same_report limit more input bs;
      }

  pub report_stored : (made : List ℕ) → PutsOr enough (report_of bs) [] (Ok tt) made → (old new : List ℕ) (b : Result ℕ Refusal)
      → StoresText (answered made) old b new → Reports bs old b new
  report_stored made puts old new b s =
      record {
        stores = rw (puts.1, made_is (report_short bs is puts.0 puts.1) puts.2) s;
        room = report_short bs is;
        first_bytes = λ limit more input. same_report limit more input bs;
      }

-- `refusal_line`: the line was put in a buffer that has room for every one, and stored.
pub line_stored : (c : RefusalCode) → c.number < 2 ^ 64 → ((i : ℕ) → get_or c.values i 0 < 2 ^ 64) → (made : List ℕ)
    → Puts line_enough [] (line_of c) made → (old new : List ℕ) (b : Result ℕ Refusal) → StoresText (answered made) old b new
    → StoresLine c old b new
line_stored c number values made puts old new b s =
    let short = refusal_short c.number c.values number values in
    record { stores = rw (made_is short puts) s; room = short }
