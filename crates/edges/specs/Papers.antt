-- Source documents 002 and 004, judged: what of their claims on starts and ends holds, and what does not. `papers` of proofs/Papers.antt
-- proves it.
use Rattle.std.specs.Prelude.{ℕ, ◌+◌, ◌<◌, ◌≤◌, min, ◌≡◌, Bool, cond, ◌&&◌, [], ◌∷◌, leb, ltb}
use Rattle.windows.specs.Windows.{Windows, columns, fixed_at, Formed}
use Rattle.windows.specs.Plans.{Plannable}
use Rattle.windows.specs.FixedEntries.{IsLeastStart, NoStart}
use Rattle.windows.specs.Intervals.{work}
use Rattle.windows.specs.RunningSums.{LatestReleaseFirst}
use Rattle.edges.specs.Starts.{others, start_by_jumps}
use Rattle.edges.specs.Ends.{largest}
use Rattle.edges.specs.Laws.{StartLaw, EndLaw}

-- One pass of edge-finding, for the entry k. Their set of entries is the others from the r of entry i to the d of entry j, with this work.
abbrev pub set_work : Windows → ℕ → ℕ → ℕ → ℕ
set_work w k j i = work (others w k) (w.r i) (w.d j)

-- it says something of k if the least r of the set and k, the work of the set and k's minutes come to more than the set's greatest d
abbrev pub says : Windows → ℕ → ℕ → ℕ → Bool
says w k j i = ltb 0 (set_work w k j i) && ltb (w.d j) (min (w.r i) (w.r k) + set_work w k j i + w.p k)

-- then k starts no earlier than the least r of each part of the set, and its work: here the part from the r of entry x on
abbrev pub part_done : Windows → ℕ → ℕ → ℕ → ℕ → ℕ
part_done w k j i x = cond (leb (w.r i) (w.r x) && ltb 0 (set_work w k j x)) (w.r x + set_work w k j x) 0

-- "the earliest start time at which each activity A could start if all the other activities were interruptible": the largest of its r and
-- of all these, as one pass over them gives it
unfoldable pub one_pass : Windows → ℕ → ℕ
one_pass w k = largest (w.r k) w.n (λ j. largest 0 w.n (λ i. cond (says w k j i) (largest 0 w.n (part_done w k j i)) 0))

-- a day of six minutes: [0, 6) p 2, [1, 2) p 1 and [3, 4) p 1; and one of four minutes with [0, 4) p 2 and the same two
abbrev pub six_minutes : Windows
six_minutes = columns 6 3 (0 ∷ 1 ∷ 3 ∷ []) (6 ∷ 2 ∷ 4 ∷ []) (2 ∷ 1 ∷ 1 ∷ [])

abbrev pub four_minutes : Windows
four_minutes = columns 4 3 (0 ∷ 1 ∷ 3 ∷ []) (4 ∷ 2 ∷ 4 ∷ []) (2 ∷ 1 ∷ 1 ∷ [])

pub record Papers : Type 0 where
  -- the rule holds: no start before has a plan
  pub rule : (w : Windows) → Formed w → (k : ℕ) → k < w.n
      → (x : ℕ) → w.r k ≤ x → x < one_pass w k → x + w.p k ≤ w.d k → Plannable (fixed_at w k x) → ⊥
  -- that it is the least start that has one does not: here it is 2, and the least start 4
  pub not_least : one_pass six_minutes 0 ≡ 2
  pub least : IsLeastStart six_minutes 0 4
  -- and here it is 2, and no start has a plan, though there is one with all entries interruptible
  pub not_any : one_pass four_minutes 0 ≡ 2
  pub planned : Plannable four_minutes
  pub none : NoStart four_minutes 0
  -- repeated from each start that it comes to, until nothing changes, it is
  pub repeated : (w : Windows) → Formed w → Plannable w → (k : ℕ) → k < w.n → (o : ℕ → ℕ) → LatestReleaseFirst w o
      → StartLaw w k (start_by_jumps w o k)
  -- that the least end of an entry that may be interrupted comes in closed form holds, without repetition
  pub ends : (w : Windows) → Formed w → Plannable w → (k : ℕ) → k < w.n → EndLaw w k
