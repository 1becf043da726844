-- `put_entries` meets its contract. The loop's invariant is `PutSoFar`.
-- Assumes nothing.
use mathlib.Core.List.{List}
use native.Mathlib.Omega.{arith}
use Prim.Native.Nat.{ℕ}
use lib.ListN.{get_or}
use Rattle.list.specs.declared.types.DayList.{DayList}
use Rattle.report.specs.Text.{texts}
use Rattle.report.specs.Reports.{entry_line_at, entry_lines}
use Rattle.report.proofs.StepCases.{so_far_none, texts_next, texts_done}
use Rattle.report.proofs.CallCases.{entry_put}
use Rattle.report.proofs.text.Text.put_entries.Goals as goal

-- the line of the entry at a place
abbrev line_at : DayList → List ℕ → List ℕ → ℕ → List ℕ
line_at list ends starts = entry_line_at list (λ j. get_or ends j 0) (λ j. get_or starts j 0)

pub loop-i-init : goal.loop-i-init
unfolding texts
loop-i-init g c = so_far_none _ _ _

pub loop-i-preserved : goal.loop-i-preserved
loop-i-preserved g c =
    texts_next c.args.list.n (line_at c.args.list c.args.ends c.args.starts) c.loop-i.invariant (omega arith)
    (entry_put c.args.list c.args.ends c.args.starts c.loop-i.i (omega arith) c.put_entry_line.ensures)

pub returns : goal.returns
unfolding entry_lines
returns g c = texts_done _ _ c.loop-i.invariant (omega arith)
