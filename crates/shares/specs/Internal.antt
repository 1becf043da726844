-- What private functions promise each other. No public promise cites these.
use Rattle.std.specs.Prelude.{ℕ, cond, get_or, eqb}
use Rattle.base.specs.Outcomes.{Outcome, answered, refused}

-- the place that row 8 carries, or the length given
abbrev pub read_end : {A : Type 0} → Outcome A → ℕ → ℕ
read_end (answered a) len = len
read_end (refused k) len = cond (eqb k.number 8) (get_or k.carries 0 0) len
