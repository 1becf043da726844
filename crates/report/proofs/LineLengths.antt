-- How long the report's lines are at most, if the numbers in them are small enough.
-- Assumes nothing.
use mathlib.Core.List.{List}
use Prim.Native.Nat.{ℕ, ◌^◌, ◌<◌, ◌≤◌}
use native.Mathlib.Omega.{arith}
use borrow.Author.Tests.{ne_eqb}
use lib.ListN.{length, get_or}
use Rattle.base.specs.Outcomes.{code}
use Rattle.list.specs.Machine.{SealFits}
use Rattle.std.specs.Prelude.{None, Option, Some}
use Rattle.list.specs.declared.types.Kind.{Kind}
use Rattle.list.specs.declared.types.Kind.TheVariants.{Pause, Whole}
use Rattle.list.specs.declared.types.Entry.{Entry}
use Rattle.base.proofs.Sums.{same_cases}
use Rattle.report.specs.Text.{ascii, decimal}
use Rattle.report.specs.Reports.{head_line, seal_text, kind_text, entry_line, run_line, refusal_line}
use Rattle.report.specs.Calls.{line_enough}
use Rattle.report.proofs.Texts.{decimal_short, line_last, line_more}

-- Numbers.

minute_short : (x : ℕ) → x ≤ 1440 → length (decimal x) ≤ 4
minute_short x h = decimal_short 4 x (omega arith) (omega arith)

place_short : (x : ℕ) → x ≤ 64 → length (decimal x) ≤ 2
place_short x h = decimal_short 2 x (omega arith) (omega arith)

-- Lines.

pub head_short : (h n moves broken : ℕ) → h ≤ 1440 → n ≤ 64 → moves ≤ 184320 → broken ≤ 64 → length (head_line h n moves broken) ≤ 43
unfolding head_line ascii
head_short h n moves broken a b c d =
    simp (line_more, line_last)
    (omega (
      arith,
      minute_short h (omega arith),
      place_short n (omega arith),
      decimal_short 6 moves (omega arith) (omega arith),
      place_short broken (omega arith),
    ))

seal_short : (s : Option ℕ) → SealFits s → length (seal_text s) ≤ 10
unfolding ascii
seal_short None h = omega arith
seal_short (Some x) h = decimal_short 10 x (omega arith) (omega arith)

kind_short : (k : Kind) → length (kind_text k) ≤ 5
unfolding ascii
kind_short Pause = omega arith
kind_short Whole = omega arith

pub entry_line_short : (place : ℕ) (e : Entry) (end start : ℕ) → place < 64 → e.serial < 2 ^ 32 → SealFits e.seal
    → e.r ≤ 1440 → e.d ≤ 1440 → e.p ≤ 1440 → end ≤ 1440 → start ≤ 1440
    → length (entry_line place e end start) ≤ 56
unfolding entry_line
entry_line_short place e end start a serial seal r d p b c =
    simp (line_more, line_last)
    (omega (
      arith,
      place_short place (omega arith),
      decimal_short 10 e.serial (omega arith) (omega arith),
      seal_short e.seal seal,
      kind_short e.kind,
      minute_short e.r (omega arith),
      minute_short e.d (omega arith),
      minute_short e.p (omega arith),
      minute_short end (omega arith),
      minute_short start (omega arith),
    ))

pub run_short : (s e k : ℕ) → s ≤ 1440 → e ≤ 1440 → k < 64 → length (run_line s e k) ≤ 13
unfolding run_line
run_short s e k a b c =
    simp (line_more, line_last)
    (omega (
      arith,
      minute_short s (omega arith),
      minute_short e (omega arith),
      place_short k (omega arith),
    ))

-- Refusals: numbers of 64 bits.

wide_short : (x : ℕ) → x < 2 ^ 64 → length (decimal x) ≤ 20
wide_short x h = decimal_short 20 x (omega arith) (omega arith)

module _ (number : ℕ) (values : List ℕ) (small : number < 2 ^ 64) (each : (i : ℕ) → get_or values i 0 < 2 ^ 64) where
  value_short : (i : ℕ) → length (decimal (get_or values i 0)) ≤ 20
  value_short i = wide_short _ (each i)

  pub refusal_short : length (refusal_line (code number values)) ≤ line_enough
  unfolding refusal_line ascii
  refusal_short =
      same_cases number 9
      (λ nine _.
      rw nine
      (simp (line_more, line_last)
      (omega (arith, decimal_short 1 9 (omega arith) (omega arith), value_short 0, value_short 1, value_short 2))))
      (λ ne _.
      same_cases number 10
      (λ ten _. rw ten (simp (line_more, line_last) (omega (arith, decimal_short 2 10 (omega arith) (omega arith), value_short 0))))
      (λ other _.
      rw (ne_eqb _ _ ne, ne_eqb _ _ other) (simp (line_more, line_last) (omega (arith, wide_short number small, value_short 0)))))
