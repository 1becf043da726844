-- The first 966 bytes of an input decide its report, and so do more.
-- Assumes nothing.
use mathlib.Core.Path.{◌≡◌, sym, ap, ◌∙◌}
use mathlib.Core.List.{List}
use Prim.Native.Nat.{ℕ, ◌≤◌}
use lib.ListN.{take}
use lib.Seq.{take-take}
use Rattle.format.specs.Reading.{read_of}
use Rattle.format.specs.Writing.{read_limit}
use Rattle.format.proofs.FirstBytes.{first_bytes}
use Rattle.report.specs.Reports.{report_of}

pub same_report : (limit : ℕ) → read_limit ≤ limit → (input bs : List ℕ) → take limit input ≡ bs → report_of input ≡ report_of bs
unfolding report_of
same_report limit more input bs e =
    let read : read_of input ≡ read_of (take limit input) =
    sym (first_bytes input) ∙ ap read_of (sym (take-take read_limit limit input more)) ∙ first_bytes (take limit input) in
    rw (← e, read)
