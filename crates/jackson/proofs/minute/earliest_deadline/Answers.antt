-- The scan finds the definition's place. The loop's invariant is the best so far.
-- Assumes nothing.
use native.Mathlib.Omega.{arith}
use Rattle.windows.proofs.ScanCases.{search_start, search_next, search_done, search_found}
use Rattle.jackson.specs.Internal.{state_at}
use Rattle.jackson.proofs.Choices.{comes_before_ranks}
use Rattle.jackson.proofs.minute.earliest_deadline.Goals as goal

pub loop-i-init : goal.loop-i-init
loop-i-init c = search_start (omega arith)

pub better_ready-k-requires-clause-k_lt_most_entries : goal.better_ready-k-requires-clause-k_lt_most_entries
better_ready-k-requires-clause-k_lt_most_entries c =
    λ h.
    let s = state_at c.args.windows.now c.args.t in
    omega (arith, search_found (comes_before_ranks s) (omega arith) c.loop-i.invariant h)

pub loop-i-preserved : goal.loop-i-preserved
loop-i-preserved c = search_next _ c.loop-i.invariant (omega arith) c.better_ready-k.ensures

pub returns : goal.returns
returns c = search_done c.loop-i.invariant (omega arith)
