-- Which search ended so, where an answer says how it ended, and that starts count at whole places alone.
-- Assumes nothing.
use mathlib.Core.Path.{◌≡◌, refl, sym, ap, ◌∙◌, fun_ext}
use mathlib.Core.Logic.{inl, inr}
use mathlib.Core.Bool.{Bool, true, false, cond}
use mathlib.Core.List.{List}
use Prim.Native.Nat.{ℕ, ◌+◌, ◌<◌}
use native.Mathlib.Omega.{arith}
use borrow.Author.Tests.{lt-ltb, le-ltb}
use Rattle.base.proofs.Sums.{le_or_lt}
use Rattle.windows.specs.Windows.{Windows, with_windows}
use Rattle.backtracking.specs.Searches.{Search, found, none, spent}
use Rattle.backtracking.specs.Laws.{NotAfter, at_whole, with_starts, LeastDay}
use Rattle.backtracking.specs.Calls.{ending_of}
use Rattle.backtracking.specs.declared.types.Ending.TheVariants.{DayFound, NoneExists, TrialsSpent}

-- Endings differ.
module _ (G : Type 0) where
  found_none : DayFound ≡ NoneExists → G
  found_none e = let z : ◌≡◌ {A = ℕ} 0 1 = cc e in absurd (omega arith)

  found_spent : DayFound ≡ TrialsSpent → G
  found_spent e = let z : ◌≡◌ {A = ℕ} 0 1 = cc e in absurd (omega arith)

  none_spent : NoneExists ≡ TrialsSpent → G
  none_spent e = let z : ◌≡◌ {A = ℕ} 0 1 = cc e in absurd (omega arith)

-- so one says which search it was
pub said_found : (x : Search) → ending_of x ≡ DayFound → (u : Windows) × (t : ℕ) × (x ≡ found u t)
said_found (found u t) e = (u, t, refl)
said_found (none t) e = found_none _ (sym e)
said_found (spent t) e = found_spent _ (sym e)

pub said_none : (x : Search) → ending_of x ≡ NoneExists → (t : ℕ) × (x ≡ none t)
said_none (found u t) e = found_none _ e
said_none (none t) e = (t, refl)
said_none (spent t) e = none_spent _ (sym e)

pub said_spent : (x : Search) → ending_of x ≡ TrialsSpent → (t : ℕ) × (x ≡ spent t)
said_spent (found u t) e = found_spent _ e
said_spent (none t) e = none_spent _ e
said_spent (spent t) e = (t, refl)

-- Starts that are the same at the whole places.
module _ (whole : ℕ → Bool) (n : ℕ) (a b : ℕ → ℕ) (same : (i : ℕ) → i < n → whole i ≡ true → a i ≡ b i) where
  at_whole_lem : (x : ℕ → ℕ) (f : ℕ → ℕ → ℕ) (i : ℕ) → at_whole whole n (λ j. f j (a j)) x i ≡ at_whole whole n (λ j. f j (b j)) x i
  at_whole_lem x f i = le_or_lt n i (λ h. rw (le-ltb i n h) refl) (λ h. rw (lt-ltb i n h) (go (whole i) refl h))
    where
      go : (t : Bool) → whole i ≡ t → i < n → cond t (f i (a i)) (x i) ≡ cond t (f i (b i)) (x i)
      go true e h = ap (f i) (same i h e)
      go false e h = refl

  not_after : (x : ℕ → ℕ) → NotAfter whole n a x → NotAfter whole n b x
  not_after x (inl z) =
      inl (z.0, z.1, z.2, omega (arith, z.3, same z.0 z.1 z.2), λ i h e. sym (same i (omega (arith, h, z.1)) e) ∙ z.4 i h e)
  not_after x (inr z) = inr (λ i h e. sym (same i h e) ∙ z i h e)

-- windows with such starts fixed are the same, and so is what is least
module _ (whole : ℕ → Bool) (w : Windows) (a b : ℕ → ℕ) (same : (i : ℕ) → i < w.n → whole i ≡ true → a i ≡ b i) where
  pub same_starts : with_starts whole w a ≡ with_starts whole w b
  same_starts =
      λ j.
      with_windows w (fun_ext (at_whole_lem whole w.n a b same w.r (λ _ s. s)) j)
      (fun_ext (at_whole_lem whole w.n a b same w.d (λ i s. s + w.p i)) j)

  pub same_least : (bytes : List ℕ) → LeastDay whole w bytes a → LeastDay whole w bytes b
  same_least bytes day =
      record {
        plan = day.plan;
        unbroken = day.unbroken;
        starts = λ i h e. rw (← (same i h e)) (day.starts i h e);
        least = λ m x is has. not_after whole w.n a b same x (day.least m x is has);
      }
