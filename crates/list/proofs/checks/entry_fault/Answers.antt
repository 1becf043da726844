-- `checks::entry_fault` meets its contract: the tests that led to each answer say which row holds.
-- Assumes nothing.
use mathlib.Core.Path.{sym}
use native.Mathlib.Omega.{arith}
use Rattle.list.proofs.Sound.{faultless}
use Rattle.list.proofs.CheckCases.{before_opening, no_minutes, past_day, too_short}
use Rattle.list.proofs.checks.entry_fault.Goals as goal
use Rattle.list.proofs.checks.entry_fault.Goals.{then-frame-e-via-then-frame-e, then-frame-e-via-else-frame-e+then-from}

pub returns-then-e-frame : goal.returns-then-e-frame
returns-then-e-frame c = before_opening c.args.frame c.args.place c.args.e c.if-e-frame.true

pub returns-then-e-eq0 : goal.returns-then-e-eq0
returns-then-e-eq0 c = no_minutes c.args.frame c.args.place c.args.e c.if-e-frame.false c.if-e-eq0.true

pub returns-then-frame-e : goal.returns-then-frame-e
returns-then-frame-e c =
    elim c.then-frame-e.branch [
      | then-frame-e-via-then-frame-e w ↦ past_day c.args.frame c.args.place c.args.e c.if-e-frame.false c.if-e-eq0.false w.if-frame-e.true
      | then-frame-e-via-else-frame-e+then-from w ↦
          too_short c.args.frame c.args.place c.args.e c.if-e-frame.false c.if-e-eq0.false w.if-frame-e.false
          (omega (arith, w.if-from.true, w.from.ensures, w.from-else-frame-e.ensures, w.from-else-frame-e-2.ensures))
    ]

pub returns : goal.returns
returns c =
    sym (faultless c.args.frame c.args.place c.args.e
    (record {
      opened = c.if-e-frame.false;
      some_minutes = omega (arith, c.if-e-eq0.false);
      in_day = c.if-frame-e.false;
      room = omega (arith, c.if-from.false, c.from.ensures, c.from-else-frame-e.ensures, c.from-else-frame-e-2.ensures);
    }))
