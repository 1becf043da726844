-- `checks::header_fault` meets its contract: the tests that led to each answer say which row holds.
-- Assumes nothing.
use mathlib.Core.Path.{sym}
use native.Mathlib.Omega.{arith}
use Rattle.list.proofs.Sound.{header_passes}
use Rattle.list.proofs.CheckCases.{no_day, long_day, too_many}
use Rattle.list.proofs.checks.header_fault.Goals as goal
use Rattle.list.proofs.checks.header_fault.Goals.{then-h-eq0-via-then-h-eq0, then-h-eq0-via-else-h-eq0+then-h-gt-LONGEST_DAY}

pub returns-then-h-eq0 : goal.returns-then-h-eq0
returns-then-h-eq0 c =
    elim c.then-h-eq0.branch [
      | then-h-eq0-via-then-h-eq0 w ↦ no_day c.args.place c.args.h c.args.n w.if-h-eq0.true
      | then-h-eq0-via-else-h-eq0+then-h-gt-LONGEST_DAY w ↦
          long_day c.args.place c.args.h c.args.n w.if-h-eq0.false w.if-h-gt-LONGEST_DAY.true
    ]

pub returns-then-from-gt-ENTRIES : goal.returns-then-from-gt-ENTRIES
returns-then-from-gt-ENTRIES c =
    too_many c.args.place c.args.h c.args.n c.if-h-eq0.false c.if-h-gt-LONGEST_DAY.false (omega (arith, c.from.ensures))

pub returns : goal.returns
returns c =
    sym (header_passes c.args.place c.args.h c.args.n
    (record {
      some_minutes = omega (arith, c.if-h-eq0.false);
      one_day = c.if-h-gt-LONGEST_DAY.false;
      room = omega (arith, c.from.ensures);
    }))
