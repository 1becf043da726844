-- The least ends of all entries, as pause entries, in closed form (source documents 002 and 004), over windows alone. That these are the
-- least ends that a plan has is `EndLaw` of Laws.antt.
use Rattle.std.specs.Prelude.{ℕ, zero, suc, ◌+◌, min, max, cond, ◌&&◌, ltb}
use Rattle.windows.specs.Windows.{Windows}
use Rattle.windows.specs.Intervals.{work}

-- the largest of x and f 0, .., f (n - 1)
unfoldable pub largest : ℕ → ℕ → (ℕ → ℕ) → ℕ
largest x zero f = x
largest x (suc n) f = max (largest x n f) (f n)

-- when the work from the r of entry i to b and entry k's minutes are done, from the smaller of the two r on and without a gap
abbrev pub end_after : Windows → ℕ → ℕ → ℕ → ℕ
end_after w k i b = min (w.r i) (w.r k) + work w (w.r i) b + w.p k

-- what the left end r of entry i and the right end b ask of entry k: if its d is later than b, and that work and its minutes do not end by
-- b, then it is the last of them to end
abbrev pub asked_of : Windows → ℕ → ℕ → ℕ → ℕ
asked_of w k b i = cond (ltb b (w.d k) && ltb b (end_after w k i b)) (end_after w k i b) 0

-- the least end in closed form: the largest of r + p and of what all pairs of an r and a d ask
unfoldable pub closed_end : Windows → ℕ → ℕ
closed_end w k = largest (w.r k + w.p k) w.n (λ j. largest 0 w.n (asked_of w k (w.d j)))
