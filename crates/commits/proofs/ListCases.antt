-- The list with the entries that count, and with one more, as code makes them.
-- Assumes nothing.
use mathlib.Core.Path.{◌≡◌, ap, ◌∙◌}
use mathlib.Core.List.{List, [], ◌∷◌, ◌++◌}
use Prim.Native.Nat.{ℕ, ◌+◌, ◌-◌, ◌<◌, min}
use native.Mathlib.Numerals.{add-one}
use native.Mathlib.Omega.{arith}
use lib.ListN.{length, take, drop, set, replicate, length-append, length-replicate}
use Rattle.std.proofs.lemmas.List.{drop-replicate}
use lib.Seq.{length-take-le, take-suc-set, take_at, drop_at}
use Rattle.list.specs.DayLists.{entries_of, blank}
use Rattle.list.specs.declared.types.Entry.{Entry}
use Rattle.list.specs.declared.types.DayList.{DayList}
use Rattle.list.proofs.Filling.{blank_after, filled_list}
use Rattle.list.proofs.Columns.{all_taken}
use Rattle.commits.specs.Days.{trimmed, with_entry}

module _ (l : DayList) (long : length l.entries ≡ 64) where
  -- the n entries that count, copied over blank ones
  pub all_copied : (n : ℕ) (front old : List Entry) → n ≡ min l.n 64 → front ≡ take n l.entries → old ≡ replicate 64 blank
      → record { frame = l.frame; n = n; entries = front ++ drop n old } ≡ trimmed l
  all_copied n front old e copied blanks =
      let taken : take n l.entries ≡ entries_of l = rw e (all_taken l long) in
      let size : length front ≡ n = rw copied (length-take-le n l.entries (omega (arith, long, e))) in
      let rest : drop n old ≡ replicate (64 - n) blank = rw blanks (drop-replicate n 64 blank) in
      filled_list l.frame n (entries_of l) (front ++ drop n old) (rw (copied, taken) at size)
      (take_at front (drop n old) n size ∙ copied ∙ taken) (drop_at front (drop n old) n size ∙ rest)

  -- one more, at place n
  pub one_more : (e : Entry) → l.n < 64
      → record { frame = l.frame; n = l.n + 1; entries = set (trimmed l).entries l.n e } ≡ with_entry l e
  one_more e h =
      filled_list l.frame (l.n + 1) (es ++ (e ∷ [])) (set (trimmed l).entries l.n e)
      (length-append es (e ∷ []) ∙ ap (λ (n : ℕ). n + 1) size)
      (rw add-one
      (take-suc-set (trimmed l).entries l.n e (omega (arith, trimmed_long)) ∙ ap (λ (xs : List Entry). xs ++ (e ∷ [])) front))
      (blank_after (trimmed l).entries l.n e h rest)
    where
      es : List Entry
      es = entries_of l

      size : length es ≡ l.n
      size = length-take-le l.n l.entries (omega (arith, long))

      front : take l.n (trimmed l).entries ≡ es
      front = take_at es _ l.n size

      rest : drop l.n (trimmed l).entries ≡ replicate (64 - l.n) blank
      rest = drop_at es _ l.n size ∙ ap (λ (n : ℕ). replicate (64 - n) blank) size

      trimmed_long : length (trimmed l).entries ≡ 64
      trimmed_long =
          length-append es _ ∙ ap (λ (n : ℕ). length es + n) (length-replicate {A = Entry} (64 - length es) blank) ∙ omega (arith, size)
