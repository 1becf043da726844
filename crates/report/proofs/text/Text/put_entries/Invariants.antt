-- `put_entries` meets its contract. The loop's invariant is `PutSoFar`.
-- Assumes nothing.
use mathlib.Core.List.{List}
use Prim.Native.Nat.{ℕ}
use lib.ListN.{get_or}
use Rattle.list.specs.declared.types.DayList.{DayList}
use Rattle.report.specs.Text.{texts}
use Rattle.report.specs.Reports.{entry_line_at}
use Rattle.report.proofs.StepCases.{PutSoFar}
use Rattle.report.proofs.text.Text.put_entries.Given as goal

-- the line of the entry at a place
abbrev line_at : DayList → List ℕ → List ℕ → ℕ → List ℕ
line_at list ends starts = entry_line_at list (λ j. get_or ends j 0) (λ j. get_or starts j 0)

abbrev pub invariant-loop-i : goal.invariant-loop-i
invariant-loop-i g l = PutSoFar g.row.N l.initial.self (texts l.i (line_at l.list l.ends l.starts)) l.self l.i l.list.n
