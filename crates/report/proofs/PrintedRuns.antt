-- The lines of the runs say the plan and its maximal runs.
-- Assumes nothing.
use mathlib.Core.Path.{◌≡◌, refl, sym, ap, ◌∙◌}
use mathlib.Core.Bool.{Bool, true, false, cond, false≢true}
use mathlib.Core.List.{List, [], ◌∷◌}
use Prim.Native.Nat.{ℕ, zero, suc, ◌<◌, ◌≤◌}
use native.Mathlib.Omega.{arith}
use borrow.Author.Tests.{leb-true, ltb-true, le-leb, lt-ltb}
use lib.ListN.{length, get_or}
use lib.Dec.{leb, ltb}
use Rattle.windows.specs.Plans.{idle}
use Rattle.base.proofs.Sums.{le_or_lt, same_cases}
use Rattle.report.specs.Text.{decimal}
use Rattle.report.specs.Runs.{begins_run, run_end, Run}
use Rattle.report.specs.Printed.{LineFields, number_in, has_minute, place_by}
use Rattle.report.specs.Laws.{SaysRun, SaysRuns}
use Rattle.report.proofs.DecimalFacts.{decimal_is}
use Rattle.base.proofs.Inversion.{both}
use Rattle.report.proofs.RunFacts.{begins_so, runs_are}
use Rattle.report.proofs.Fields.{Words, decimal_word, kept, HasLine, kept_at, kept_has, kept_order}

-- the fields of a run's line
abbrev pub run_fields : ℕ → (ℕ → ℕ) → ℕ → LineFields
run_fields h m t = decimal t ∷ decimal (run_end h m t) ∷ decimal (m t) ∷ []

pub run_words : (h : ℕ) (m : ℕ → ℕ) (t : ℕ) → Words (run_fields h m t)
run_words h m t = search decimal_word

-- the test of a line for a minute
has_minute_lem : (fs : LineFields) (t : ℕ) → has_minute fs t ≡ true → (number_in fs 0 ≤ t) × (t < number_in fs 1)
has_minute_lem fs t e = let (from, to) = both (leb (number_in fs 0) t) (ltb t (number_in fs 1)) e in (leb-true _ _ from, ltb-true _ _ to)

minute_has : (fs : LineFields) (t : ℕ) → number_in fs 0 ≤ t → t < number_in fs 1 → has_minute fs t ≡ true
minute_has fs t from to = rw (le-leb (number_in fs 0) t from, lt-ltb t (number_in fs 1) to)

-- one of the lines has minute t
abbrev Has : List LineFields → ℕ → Type 0
Has ls t = (j : ℕ) × (j < length ls) × (has_minute (get_or ls j []) t ≡ true)

has_later : (fs : LineFields) (ls : List LineFields) (t : ℕ) → has_minute fs t ≡ false → Has (fs ∷ ls) t → Has ls t
has_later fs ls t e (zero, l, has) = absurd (false≢true (sym e ∙ has))
has_later fs ls t e (suc j, l, has) = (j, omega arith, has)

-- the place of a minute, where each line that has it says x, and one does unless x is idle
place_is : (t x : ℕ) (ls : List LineFields)
    → ((j : ℕ) → j < length ls → has_minute (get_or ls j []) t ≡ true → number_in (get_or ls j []) 2 ≡ x)
    → ((x ≡ idle → ⊥) → Has ls t) → place_by ls t ≡ x
unfolding place_by
place_is t x [] each some = same_cases x idle (λ e _. sym e) (λ ne _. absurd (let (j, l, has) = some ne in omega (arith, l)))
place_is t x (fs ∷ ls) each some =
    go (has_minute fs t) refl
    (λ e. place_is t x ls (λ j l. each (suc j) (omega arith)) (λ ne. has_later fs ls t e (some ne)))
  where
    go : (p : Bool) → has_minute fs t ≡ p → (has_minute fs t ≡ false → place_by ls t ≡ x) → cond p (number_in fs 2) (place_by ls t) ≡ x
    go true e rest = each 0 (omega arith) e
    go false e rest = rest e

-- The lines of the runs of m.
module _ (h : ℕ) (m : ℕ → ℕ) where
  abbrev pub runs_of : List LineFields
  runs_of = kept h (begins_run m) (run_fields h m)

  -- line j is that of the run that begins at minute t
  abbrev Line : ℕ → ℕ → Type 0
  Line j t = HasLine (begins_run m) (run_fields h m) h runs_of j t

  line_at : (j : ℕ) → j < length runs_of → (t : ℕ) × Line j t
  line_at = kept_at (begins_run m) (run_fields h m) h

  line_of : (t : ℕ) → t < h → begins_run m t ≡ true → (j : ℕ) × Line j t
  line_of = kept_has (begins_run m) (run_fields h m) h

  -- and says it
  said : (j t : ℕ) → Line j t → SaysRun (get_or runs_of j []) t (run_end h m t) (m t)
  said j t line =
      rw line.is
      (record { fields = refl; first = (decimal_is t).value; end = (decimal_is (run_end h m t)).value; place = (decimal_is (m t)).value })

  begins : (t : ℕ) → t < h → begins_run m t ≡ true → Run h m t (run_end h m t) (m t)
  begins t below e = (runs_are h m t _ _).1 (below, e, refl, refl)

  -- a minute that an entry has is in a run that began
  record Began (t : ℕ) : Type 0 where
    start : ℕ
    below : start < h
    passes : begins_run m start ≡ true
    from : start ≤ t
    to : t < run_end h m start

  -- the run of minute t has the next one too, if its entry has it
  goes_on : (t : ℕ) → suc t < h → m t ≡ m (suc t) → Began t → Began (suc t)
  goes_on t l e run =
      let s = run.start in
      let is = begins s run.below run.passes in
      record {
        start = s;
        below = run.below;
        passes = run.passes;
        from = omega (arith, run.from);
        to =
            le_or_lt (run_end h m s) (suc t)
            (λ q.
            let z : run_end h m s ≡ suc t = omega (arith, run.to) in
            absurd (is.last (omega arith) (ap m z ∙ sym e ∙ is.minutes t run.from run.to)))
            (λ q. q);
      }

  here : (t : ℕ) → t < h → begins_run m t ≡ true → Began t
  here t l e = record { start = t; below = l; passes = e; from = omega arith; to = (begins t l e).some }

  began : (t : ℕ) → t < h → (m t ≡ idle → ⊥) → Began t
  began zero l entry = here 0 l (begins_so m 0 entry (λ s q. absurd (omega arith)))
  began (suc t) l entry =
      same_cases (m t) (m (suc t))
      (λ q _. goes_on t l q (began t (omega arith) (λ z. entry (sym q ∙ z))))
      (λ ne _. here (suc t) l (begins_so m (suc t) entry (λ s q z. let y : t ≡ s = omega arith in ne (ap m y ∙ z))))

  -- the lines say the plan
  pub place_said : (t : ℕ) → t < h → place_by runs_of t ≡ m t
  place_said t l = place_is t (m t) runs_of each some
    where
      each : (j : ℕ) → j < length runs_of → has_minute (get_or runs_of j []) t ≡ true → number_in (get_or runs_of j []) 2 ≡ m t
      each j below has =
          let (s, line) = line_at j below in
          let says = said j s line in
          let (from, to) = has_minute_lem (get_or runs_of j []) t has in
          let run = begins s line.below line.passes in
          says.place ∙ sym (run.minutes t (omega (arith, from, says.first)) (omega (arith, to, says.end)))

      some : (m t ≡ idle → ⊥) → Has runs_of t
      some entry =
          let run = began t l entry in
          let (j, line) = line_of run.start run.below run.passes in
          let says = said j run.start line in (
            j,
            line.place,
            minute_has (get_or runs_of j []) t (omega (arith, says.first, run.from)) (omega (arith, says.end, run.to)),
          )

  same_run : {s e k x y z : ℕ} → s ≡ x → e ≡ y → k ≡ z → Run h m x y z → Run h m s e k
  same_run a b c run = rw (a, b, c) run

  -- and its maximal runs, in order
  pub runs_said : SaysRuns h m runs_of
  runs_said =
      record {
        each = λ s e k. (there s e k, back s e k);
        in_order = kept_order (begins_run m) (run_fields h m) (λ fs. number_in fs 0) (λ t. (decimal_is t).value) h;
      }
    where
      Some : ℕ → ℕ → ℕ → Type 0
      Some s e k = (j : ℕ) × (j < length runs_of) × SaysRun (get_or runs_of j []) s e k

      there : (s e k : ℕ) → Run h m s e k → Some s e k
      there s e k run =
          let (below, passes, end, place) = (runs_are h m s e k).0 run in
          let (j, line) = line_of s below passes in
          let so = said j s line in
          let fields = so.fields ∙ sym (λ i. decimal s ∷ decimal (end i) ∷ decimal (place i) ∷ []) in
          (j, line.place, record { fields = fields; first = so.first; end = so.end ∙ sym end; place = so.place ∙ sym place })

      back : (s e k : ℕ) → Some s e k → Run h m s e k
      back s e k (j, below, says) =
          let (t, line) = line_at j below in
          let so = said j t line in
          same_run (sym says.first ∙ so.first) (sym says.end ∙ so.end) (sym says.place ∙ so.place)
          (begins t line.below line.passes)
