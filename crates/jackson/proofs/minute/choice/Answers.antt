-- The place chosen is the definition's, in each case.
-- Assumes nothing.
use mathlib.Core.Path.{sym, ◌∙◌}
use borrow.Author.Rules.{rules}
use native.Mathlib.Omega.{arith}
use Rattle.jackson.specs.Minutes.{state_in, chosen}
use Rattle.jackson.proofs.MinuteCases.{found_place, smaller_interrupts}
use Rattle.jackson.proofs.minute.choice.Goals as goal
use Rattle.jackson.proofs.minute.choice.Goals.{else-running-places_held-via-else-running-places_held}
use Rattle.jackson.proofs.minute.choice.Goals.{else-running-places_held-via-then-running-places_held+else-is_ready}
use Rattle.jackson.proofs.minute.choice.Goals.{else-running-places_held-via-then-running-places_held+then-is_ready+else-windows-running}

pub bounds-windows-from : goal.bounds-windows-from
bounds-windows-from c =
    omega (arith, found_place (state_in c.args.day.now) (omega arith) (omega arith) (search rules), c.earliest_deadline-k.ensures)

pub returns-then-windows-running : goal.returns-then-windows-running
unfolding chosen
returns-then-windows-running c = search rules

pub returns-else-running-places_held : goal.returns-else-running-places_held
unfolding chosen
returns-else-running-places_held c =
    elim c.else-running-places_held.branch [
      | else-running-places_held-via-then-running-places_held+then-is_ready+else-windows-running w ↦
          let day = state_in c.args.day.now in
          let smaller = rw (w.from.ensures, c.earliest_deadline-k.ensures, c.from-running.ensures) at w.if-windows-running.false in
          c.earliest_deadline-k.ensures ∙ sym (smaller_interrupts day smaller)
      | else-running-places_held-via-then-running-places_held+else-is_ready w ↦ search rules
      | else-running-places_held-via-else-running-places_held w ↦ search rules
    ]
