-- The numbers, or what was there.
-- Assumes nothing.
use borrow.Author.Rules.{rules}
use Prim.Native.Nat.{◌<◌}
use Rattle.base.proofs.Walk.{length_mapped}
use Rattle.list.specs.Machine.{NumbersFit}
use Rattle.list.proofs.InTypes.{each_minutes}
use Rattle.flat.proofs.DayCases.{day_put, day_kept}
use Rattle.flat.proofs.day.put_day.Goals as goal

pub returns-then-row-eq-DAY_NUMBERS : goal.returns-then-row-eq-DAY_NUMBERS
returns-then-row-eq-DAY_NUMBERS c =
    let in_types : NumbersFit c.args.day.list = record {
      h = search rules;
      opening = search rules;
      n = search rules;
      long = search (rules, length_mapped);
      minutes = each_minutes c.args.day.list.entries c.well_formed.0.1.1.0.1.1.1.1.0.0 c.well_formed.0.1.1.0.1.1.1.1.0.1.1;
    } in
    let stamp_fits : c.args.day.stamp < 65536 = search rules in
    day_put c.args.day (in_types) (stamp_fits) c.args.row.now _ c.if-row-eq-DAY_NUMBERS.true
    c.put_day_numbers.ensures

pub returns-else-row-eq-DAY_NUMBERS : goal.returns-else-row-eq-DAY_NUMBERS
returns-else-row-eq-DAY_NUMBERS c =
    day_kept c.args.day c.args.row.now c.if-row-eq-DAY_NUMBERS.false
