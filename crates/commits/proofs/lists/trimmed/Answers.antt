-- The entries that count, copied over blank ones.
-- Assumes nothing.
use borrow.Author.Rules.{rules}
use mathlib.Core.Path.{ap}
use Rattle.list.specs.declared.types.DayList.{DayList}
use Rattle.base.proofs.Walk.{length_mapped}
use Rattle.commits.proofs.ListCases.{all_copied}
use Rattle.commits.proofs.lists.trimmed.Goals as goal

pub returns : goal.returns
returns c =
    all_copied c.args.list (search (rules, length_mapped)) _ _ _ c.places_held-count.ensures c.copy_from_slice.ensures.after
    (ap (λ (l : DayList). l.entries) c.empty_list.ensures)
