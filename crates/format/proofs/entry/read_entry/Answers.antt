-- `entry::read_entry` meets its contract: each answer is the case of `entry_of` that its tests say.
-- Assumes nothing.
use borrow.Author.Rules.{rules}
use mathlib.Core.Path.{◌≡◌, ◌∙◌}
use lib.ListN.{length}
use Rattle.list.proofs.Answered.{handed_on}
use Rattle.format.proofs.EntryCases.{entry_none, entry_broken, entry_legal}
use Rattle.format.proofs.entry.read_entry.Goals as goal

pub returns-then-is_empty : goal.returns-then-is_empty
returns-then-is_empty c = entry_none c.args.frame c.args.at c.args.rest.now (search rules)

pub returns-in_err-m : goal.returns-in_err-m
returns-in_err-m c =
    let some : length c.args.rest.now ≡ 0 → ⊥ = search rules in
    handed_on _ _ c.from_residual.ensures.1 ∙ entry_broken c.args.frame c.args.at c.args.rest.now some c.in_err-m.ensures

pub returns : goal.returns
returns c =
    let some : length c.args.rest.now ≡ 0 → ⊥ = search rules in
    c.read_fields.ensures ∙ entry_legal c.args.frame c.args.at c.args.rest.now some c.in_ok-m.ensures
