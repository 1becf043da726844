-- What `position` answers is the start.
-- Assumes nothing.
use Rattle.std.proofs.Common.{rules, ◌≡◌, ◌∙◌, ℕ, ◌<◌, length, get_or}
use Rattle.std.specs.Option.{MatchOption}
use Rattle.planner.proofs.BrokenCases.{found_first}
use Rattle.planner.proofs.broken.start_in.Goals as goal

pub returns : goal.returns
returns c =
    let xs = c.args.plan.now in
    let k = c.args.k in
    let found : MatchOption c.position.result ((t : ℕ) → t < length xs → get_or xs t 0 ≡ k → ⊥)
    (λ t. (t < length xs) × (get_or xs t 0 ≡ k) × ((i : ℕ) → i < t → get_or xs i 0 ≡ k → ⊥)) = search rules in
    c.unwrap_or.ensures ∙ found_first xs k c.position.result found
