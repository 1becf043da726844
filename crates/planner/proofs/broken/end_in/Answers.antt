-- What `rposition` answers is the minute before the end.
-- Assumes nothing.
use Rattle.std.proofs.Common.{rules, ◌≡◌, ℕ, ◌+◌, ◌<◌, length, get_or}
use Rattle.std.specs.Option.{MatchOption}
use Rattle.planner.proofs.BrokenCases.{found_last}
use Rattle.planner.proofs.broken.end_in.Goals as goal

pub returns : goal.returns
returns c =
    let xs = c.args.plan.now in
    let k = c.args.k in
    let found : MatchOption c.rposition.result ((t : ℕ) → t < length xs → get_or xs t 0 ≡ k → ⊥)
    (λ t. (t < length xs) × (get_or xs t 0 ≡ k) × ((i : ℕ) → t < i → i < length xs → get_or xs i 0 ≡ k → ⊥)) = search rules in
    let end : MatchOption c.rposition.result (c.map_or.result ≡ 0) (λ t. c.map_or.result ≡ t + 1) = search rules in
    found_last xs k c.rposition.result found c.map_or.result end
