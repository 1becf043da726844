-- Lines and fields of a text: splitting it gives back what it was made of.
-- Assumes nothing.
use mathlib.Core.Path.{◌≡◌, refl, sym, ap, ◌∙◌}
use mathlib.Core.Bool.{Bool, true, false, cond}
use mathlib.Core.List.{List, [], ◌∷◌, ◌++◌, append_assoc, append-nil}
use Prim.Native.Nat.{ℕ, zero, suc, ◌<◌, ◌≤◌}
use native.Mathlib.Omega.{arith}
use borrow.Author.Tests.{eq-eqb, ne_eqb}
use lib.ListN.{length, get_or, length-append, get_or-append}
use lib.Seq.{get_or-append_seam, get_or_at}
use Rattle.base.proofs.Sums.{le_or_lt, below_suc}
use Rattle.report.specs.Text.{ascii, decimal, line, texts}
use Rattle.report.specs.Printed.{LineFields, parts, lines_of}
use Rattle.report.proofs.DecimalFacts.{decimal_is}

-- no byte is c
abbrev Without : ℕ → List ℕ → Type 0
Without c [] = Unit {0}
Without c (b ∷ bs) = (b ≡ c → ⊥) × Without c bs

without_append : (c : ℕ) (f g : List ℕ) → Without c f → Without c g → Without c (f ++ g)
without_append c [] g a b = b
without_append c (x ∷ f) g a b = (a.0, without_append c f g a.1 b)

-- a part that is ended, and one that is not
parts_ended : (c : ℕ) (f rest : List ℕ) → Without c f → parts c (f ++ (c ∷ rest)) ≡ f ∷ parts c rest
unfolding parts
parts_ended c [] rest w = rw (eq-eqb c c refl)
parts_ended c (b ∷ f) rest w = rw (ne_eqb b c w.0, parts_ended c f rest w.1)

parts_last : (c b : ℕ) (f : List ℕ) → Without c (b ∷ f) → parts c (b ∷ f) ≡ (b ∷ f) ∷ []
unfolding parts
parts_last c b [] w = rw (ne_eqb b c w.0)
parts_last c b (x ∷ f) w = rw (ne_eqb b c w.0, parts_last c x f w.1)

-- Words: fields with neither space nor newline; each of their bytes is more than both.

abbrev Plain : List ℕ → Type 0
Plain [] = Unit {0}
Plain (b ∷ bs) = (32 < b) × Plain bs

plain_without : (c : ℕ) → c ≤ 32 → (f : List ℕ) → Plain f → Without c f
plain_without c low [] p = tt
plain_without c low (b ∷ f) p = let more = p.0 in (λ e. omega arith, plain_without c low f p.1)

abbrev pub Word : List ℕ → Type 0
Word f = (1 ≤ length f) × Plain f

plain_each : (f : List ℕ) → ((i : ℕ) → i < length f → 32 < get_or f i 0) → Plain f
plain_each [] h = tt
plain_each (b ∷ f) h = (h 0 (omega arith), plain_each f (λ i l. h (suc i) (omega arith)))

pub decimal_word : (x : ℕ) → Word (decimal x)
decimal_word x =
    let is = decimal_is x in
    (is.some, plain_each (decimal x) (λ i l. omega (arith, (is.each i l).0)))

-- every field of a line, and there is one
abbrev pub Words : LineFields → Type 0
Words [] = ⊥
Words (f ∷ []) = Word f
Words (f ∷ g ∷ fs) = Word f × Words (g ∷ fs)

-- a line before its newline
joined : LineFields → List ℕ
joined [] = []
joined (f ∷ []) = f
joined (f ∷ g ∷ fs) = f ++ (32 ∷ joined (g ∷ fs))

line_joined : (fs : LineFields) → line fs ≡ joined fs ++ (10 ∷ [])
unfolding line ascii joined
line_joined [] = refl
line_joined (f ∷ []) = refl
line_joined (f ∷ g ∷ fs) = rw (line_joined (g ∷ fs)) (sym (append_assoc f _ _))

joined_without : (fs : LineFields) → Words fs → Without 10 (joined fs)
unfolding joined
joined_without [] w = tt
joined_without (f ∷ []) w = plain_without 10 (omega arith) f w.1
joined_without (f ∷ g ∷ fs) w =
    without_append 10 f _ (plain_without 10 (omega arith) f w.0.1) (λ e. omega arith, joined_without (g ∷ fs) w.1)

joined_parts : (fs : LineFields) → Words fs → parts 32 (joined fs) ≡ fs
unfolding joined
joined_parts [] w = absurd w
joined_parts ([] ∷ []) w = absurd (omega (arith, w.0))
joined_parts ((b ∷ f) ∷ []) w = parts_last 32 b f (plain_without 32 (omega arith) (b ∷ f) w.1)
joined_parts (f ∷ g ∷ fs) w =
    parts_ended 32 f (joined (g ∷ fs)) (plain_without 32 (omega arith) f w.0.1)
    ∙ ap (λ (gs : LineFields). f ∷ gs) (joined_parts (g ∷ fs) w.1)

-- the fields of a text's first line
line_said : (fs : LineFields) (rest : List ℕ) → Words fs → lines_of (line fs ++ rest) ≡ fs ∷ lines_of rest
unfolding lines_of
line_said fs rest w =
    rw (line_joined fs, append_assoc (joined fs) (10 ∷ []) rest, parts_ended 10 (joined fs) rest (joined_without fs w), joined_parts fs w)

-- A text of lines.

pub text_of : List LineFields → List ℕ
text_of [] = []
text_of (fs ∷ ls) = line fs ++ text_of ls

abbrev pub Each : List LineFields → Type 0
Each [] = Unit {0}
Each (fs ∷ ls) = Words fs × Each ls

each_append : (xs ys : List LineFields) → Each xs → Each ys → Each (xs ++ ys)
each_append [] ys a b = b
each_append (x ∷ xs) ys a b = (a.0, each_append xs ys a.1 b)

text_append : (xs ys : List LineFields) → text_of (xs ++ ys) ≡ text_of xs ++ text_of ys
unfolding text_of
text_append [] ys = refl
text_append (x ∷ xs) ys = rw (text_append xs ys) (sym (append_assoc (line x) _ _))

lines_said : (ls : List LineFields) → Each ls → lines_of (text_of ls) ≡ ls
unfolding text_of lines_of parts
lines_said [] e = refl
lines_said (fs ∷ ls) e = line_said fs (text_of ls) e.0 ∙ ap (λ (xs : List LineFields). fs ∷ xs) (lines_said ls e.1)

-- a text of one line, and one of a line and two kinds of lines after it
pub line_alone : (fs : LineFields) → Words fs → lines_of (line fs) ≡ fs ∷ []
unfolding text_of
line_alone fs w = ap lines_of (sym (append-nil (line fs))) ∙ lines_said (fs ∷ []) (w, tt)

pub text_said : (fs : LineFields) (xs ys : List LineFields) → Words fs → Each xs → Each ys
    → lines_of (line fs ++ (text_of xs ++ text_of ys)) ≡ fs ∷ (xs ++ ys)
unfolding text_of
text_said fs xs ys w a b =
    ap (λ (t : List ℕ). lines_of (line fs ++ t)) (sym (text_append xs ys)) ∙ lines_said (fs ∷ (xs ++ ys)) (w, each_append xs ys a b)

-- The lines x i of those numbers below n that pass a test.

pub kept : ℕ → (ℕ → Bool) → (ℕ → LineFields) → List LineFields
kept zero b x = []
kept (suc n) b x = kept n b x ++ cond (b n) (x n ∷ []) []

module _ (b : ℕ → Bool) (x : ℕ → LineFields) where
  pub kept_each : (n : ℕ) → ((i : ℕ) → Words (x i)) → Each (kept n b x)
  unfolding kept
  kept_each zero h = tt
  kept_each (suc n) h = each_append (kept n b x) _ (kept_each n h) (go (b n))
    where
      go : (t : Bool) → Each (cond t (x n ∷ []) [])
      go true = (h n, tt)
      go false = tt

  pub kept_text : (n : ℕ) → texts n (λ i. cond (b i) (line (x i)) []) ≡ text_of (kept n b x)
  unfolding kept texts text_of
  kept_text zero = refl
  kept_text (suc n) =
      rw (text_append (kept n b x) (cond (b n) (x n ∷ []) []), kept_text n) (ap (λ (t : List ℕ). text_of (kept n b x) ++ t) (go (b n)))
    where
      go : (t : Bool) → cond t (line (x n)) [] ≡ text_of (cond t (x n ∷ []) [])
      go true = sym (append-nil (line (x n)))
      go false = refl

  -- place j of xs has the line of t, a number below n that passes
  pub record HasLine (n : ℕ) (xs : List LineFields) (j t : ℕ) : Type 0 where
    pub place : j < length xs
    pub below : t < n
    pub passes : b t ≡ true
    pub is : get_or xs j [] ≡ x t

  -- one number more
  module _ (n : ℕ) (xs : List LineFields) where
    -- a line before it stays
    stays : (ys : List LineFields) (j t : ℕ) → HasLine n xs j t → HasLine (suc n) (xs ++ ys) j t
    stays ys j t h =
        record {
          place = omega (arith, length-append xs ys, h.place);
          below = omega (arith, h.below);
          passes = h.passes;
          is = get_or-append xs ys [] j h.place ∙ h.is;
        }

    -- its own comes last
    own : b n ≡ true → HasLine (suc n) (xs ++ (x n ∷ [])) (length xs) n
    own e =
        record {
          place =
              omega (arith, length-append xs (x n ∷ []));
          below =
              omega arith;
          passes =
              e;
          is = get_or-append_seam xs (x n) [] [];
        }

    more_at : (j : ℕ) → (j < length xs → (t : ℕ) × HasLine n xs j t) → (p : Bool) → b n ≡ p → j < length (xs ++ cond p (x n ∷ []) [])
        → (t : ℕ) × HasLine (suc n) (xs ++ cond p (x n ∷ []) []) j t
    more_at j before true e l =
        le_or_lt (length xs) j
        (λ h. let z : j ≡ length xs = omega (arith, length-append xs (x n ∷ [])) in (n, rw z (own e)))
        (λ h. let (t, has) = before h in (t, stays (x n ∷ []) j t has))
    more_at j before false e l = let (t, has) = before (omega (arith, length-append xs [])) in (t, stays [] j t has)

    more_has : (t : ℕ) → (t < n → (j : ℕ) × HasLine n xs j t) → (p : Bool) → b n ≡ p → t < suc n → b t ≡ true
        → (j : ℕ) × HasLine (suc n) (xs ++ cond p (x n ∷ []) []) j t
    more_has t before p e l passes =
        le_or_lt n t
        (λ h. let z : t ≡ n = omega arith in rw (z, sym e ∙ ap b (sym z) ∙ passes) (length xs, own (ap b (sym z) ∙ passes)))
        (λ h. let (j, has) = before h in (j, stays _ j t has))

  -- each line is that of such a number
  pub kept_at : (n j : ℕ) → j < length (kept n b x) → (t : ℕ) × HasLine n (kept n b x) j t
  unfolding kept
  kept_at zero j l = absurd (omega arith)
  kept_at (suc n) j l = more_at n (kept n b x) j (kept_at n j) (b n) refl l

  -- and each such number has a line
  pub kept_has : (n t : ℕ) → t < n → b t ≡ true → (j : ℕ) × HasLine n (kept n b x) j t
  unfolding kept
  kept_has zero t l passes = absurd (omega arith)
  kept_has (suc n) t l passes = more_has n (kept n b x) t (λ h. kept_has n t h passes) (b n) refl l passes

  -- in the order of the numbers, where f tells a line's number
  module _ (f : LineFields → ℕ) (tells : (t : ℕ) → f (x t) ≡ t) where
    pub kept_order : (n i j : ℕ) → i < j → j < length (kept n b x) → f (get_or (kept n b x) i []) < f (get_or (kept n b x) j [])
    unfolding kept
    kept_order zero i j l h = absurd (omega arith)
    kept_order (suc n) i j l h = go (b n) (kept_order n i j l) h
      where
        xs : List LineFields
        xs = kept n b x

        Before : List LineFields → Type 0
        Before ls = j < length ls → f (get_or ls i []) < f (get_or ls j [])

        go : (p : Bool) → Before xs → Before (xs ++ cond p (x n ∷ []) [])
        go true before k =
            le_or_lt (length xs) j
            (λ q.
            let z : j ≡ length xs = omega (arith, length-append xs (x n ∷ [])) in
            let (t, has) = kept_at n i (omega arith) in
            let first : f (get_or (xs ++ (x n ∷ [])) i []) ≡ t = ap f (get_or-append xs _ [] i has.place ∙ has.is) ∙ tells t in
            let last : f (get_or (xs ++ (x n ∷ [])) j []) ≡ n = ap f (get_or_at xs (x n) [] [] j (sym z)) ∙ tells n in
            omega (arith, has.below, first, last))
            (λ q. rw (get_or-append xs (x n ∷ []) [] i (omega arith), get_or-append xs (x n ∷ []) [] j q) (before q))
        go false before k = rw (append-nil xs) (before (rw (append-nil xs) at k))

-- where every number passes
module _ (x : ℕ → LineFields) where
  pub all_length : (n : ℕ) → length (kept n (λ _. true) x) ≡ n
  unfolding kept
  all_length zero = refl
  all_length (suc n) = simp length-append (omega (arith, all_length n))

  pub all_at : (n i : ℕ) → i < n → get_or (kept n (λ _. true) x) i [] ≡ x i
  unfolding kept
  all_at zero = λ i l. absurd (omega arith)
  all_at (suc n) =
      below_suc n (λ i. get_or (kept n (λ _. true) x ++ (x n ∷ [])) i [] ≡ x i)
      (λ i l. get_or-append (kept n (λ _. true) x) _ [] i (omega (arith, all_length n)) ∙ all_at n i l)
      (rw (all_length n) at (get_or-append_seam (kept n (λ _. true) x) (x n) [] []))
