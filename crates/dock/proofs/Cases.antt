-- What the program's buffers hold, from what `report` and `refusal_line` answer.
-- Assumes nothing.
use mathlib.Core.Path.{◌≡◌, refl, sym, ap, ◌∙◌}
use mathlib.Core.List.{List}
use Prim.Native.Nat.{ℕ, ◌≤◌, ◌<◌}
use native.Mathlib.Omega.{arith}
use borrow.Author.Tests.{le-ltb}
use lib.ListN.{length, take}
use lib.Seq.{take-append_seam}
use Rattle.base.specs.Outcomes.{Outcome, answered, refused}
use Rattle.list.specs.Refusals.{code_of}
use Rattle.format.specs.Writing.{storing}
use Rattle.list.specs.declared.types.Refusal.{Refusal}
use Rattle.std.specs.Prelude.{Err, Ok, Result}
use Rattle.base.proofs.Inversion.{answered_refused, answered_same, refused_same}
use Rattle.format.proofs.LongestList.{longest, longest_reached}
use Rattle.codes.specs.Codes.{numbers_of}
use Rattle.codes.specs.declared.RefusalCode.{RefusalCode}
use Rattle.report.specs.Reports.{refusal_line, report_of, printed, printed_of}
use Rattle.report.specs.Calls.{StoresText, enough, Reports, line_of, line_enough, StoresLine}
use Rattle.report.proofs.FirstBytes.{same_report}
use Rattle.report.proofs.ReportLaws.{report_law}
use Rattle.dock.specs.Calls.{InputLimit, HoldsText, PrintsFor, Prints}

-- The limit: more than the 965 bytes of a longest list.
pub limit_is : (limit : ℕ) → 965 < limit → limit ≤ 966 → InputLimit limit
limit_is limit more most = record { most = most; more = λ l w. omega (arith, longest l w) }

limit_more : (limit : ℕ) → InputLimit limit → 965 < limit
limit_more limit is = let (l, formed, long) = longest_reached in omega (arith, is.more l formed, long)

-- A text that a buffer has room for was stored.
module _ (text old new : List ℕ) (room : length text ≤ length old) where
  fits : storing text (length old) ≡ answered (length text)
  fits = simp (le-ltb (length old) (length text) room)

  text_held : (size : ℕ) → StoresText (answered text) old (Ok size) new → HoldsText new size text
  text_held size stores =
      let whole : size ≡ length text = answered_same refl (stores.outcome ∙ fits) in
      record { whole = whole; bytes = rw (whole, stores.buffer, fits) (take-append_seam text _) }

  text_taken : (x : Refusal) → StoresText (answered text) old (Err x) new → ⊥
  text_taken x stores = answered_refused fits (sym stores.outcome)

-- The line of a refusal, from its number and values.
module _ (x : Refusal) (c : RefusalCode) (is : c ≡ numbers_of (code_of x)) (old new : List ℕ) (room : line_enough ≤ length old) where
  line_is : line_of c ≡ refusal_line (code_of x)
  unfolding refusal_line
  line_is = rw is

  pub line_held : (size : ℕ) → StoresLine c old (Ok size) new → HoldsText new size (refusal_line (code_of x))
  line_held size line = rw line_is at (text_held (line_of c) old new (omega (arith, line.room, room)) size line.stores)

-- a text that is held is printed for its input
prints_for : (input text : List ℕ) (size : ℕ) → HoldsText text size (printed_of input) → PrintsFor input text size
prints_for input text size h = record { holds = h; law = rw h.bytes (report_law input) }

-- What is printed for the bytes read is printed for every input of which they are the first.
pub prints : (buffer : List ℕ) (count : ℕ) → InputLimit (length buffer) → (text : List ℕ) (size : ℕ)
    → HoldsText text size (printed_of (take count buffer)) → Prints buffer count text size
prints buffer count limit text size h =
    record {
      read = h;
      all =
          λ input e.
          prints_for input text size (rw (same_report (length buffer) (limit_more _ limit) input (take count buffer) e) h);
    }

-- The report of the bytes read, in a buffer that has room for every text.
module _ (bs old new : List ℕ) (room : enough ≤ length old) where
  module _ (a : Result ℕ Refusal) (reports : Reports bs old a new) where
    text_room : (text : List ℕ) → report_of bs ≡ answered text → length text ≤ length old
    text_room text e = omega (arith, reports.room text e, room)

    stores_as : (o : Outcome (List ℕ)) → report_of bs ≡ o → StoresText o old a new
    stores_as o e = rw e at reports.stores

  pub report_held : (size : ℕ) → Reports bs old (Ok size) new → HoldsText new size (printed_of bs)
  report_held size reports = go (report_of bs) refl
    where
      go : (o : Outcome (List ℕ)) → report_of bs ≡ o → HoldsText new size (printed o)
      go (answered text) q = text_held text old new (text_room _ reports text q) size (stores_as _ reports _ q)
      go (refused k) q = absurd (answered_refused refl (stores_as _ reports _ q).outcome)

  -- row 12 cannot hold
  pub refused_printed : (x : Refusal) → Reports bs old (Err x) new → printed_of bs ≡ refusal_line (code_of x)
  refused_printed x reports = go (report_of bs) refl
    where
      go : (o : Outcome (List ℕ)) → report_of bs ≡ o → printed o ≡ refusal_line (code_of x)
      go (answered text) q = absurd (text_taken text old new (text_room _ reports text q) x (stores_as _ reports _ q))
      go (refused k) q = ap refusal_line (refused_same (stores_as _ reports _ q).outcome refl)
