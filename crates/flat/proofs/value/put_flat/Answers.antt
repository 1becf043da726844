-- The numbers, or what was there.
-- Assumes nothing.
use borrow.Author.Rules.{rules}
use Rattle.base.proofs.Walk.{length_mapped}
use Rattle.list.specs.Machine.{NumbersFit}
use Rattle.list.proofs.InTypes.{each_minutes}
use Rattle.flat.proofs.LengthCases.{flat_put, flat_kept}
use Rattle.flat.proofs.value.put_flat.Goals as goal

pub returns-then-fields-eq-NUMBERS : goal.returns-then-fields-eq-NUMBERS
returns-then-fields-eq-NUMBERS c =
    let in_types : NumbersFit c.args.list = record {
      h = search rules;
      opening = search rules;
      n = search rules;
      long = search (rules, length_mapped);
      minutes = each_minutes c.args.list.entries c.well_formed.0.1.1.1.1.0.0 c.well_formed.0.1.1.1.1.0.1.1;
    } in
    flat_put c.args.list c.args.fields.now (in_types) _ c.if-fields-eq-NUMBERS.true c.put_numbers.ensures

pub returns-else-fields-eq-NUMBERS : goal.returns-else-fields-eq-NUMBERS
returns-else-fields-eq-NUMBERS c =
    flat_kept c.args.list c.args.fields.now c.if-fields-eq-NUMBERS.false
