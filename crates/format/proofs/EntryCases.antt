-- What `fields_entry` and `entry_of` are, case by case, from the facts that code has at each answer.
-- Assumes nothing.
use mathlib.Core.Path.{◌≡◌, sym}
use mathlib.Core.Bool.{Bool, true, false, cond}
use mathlib.Core.List.{List, [], ◌∷◌}
use Prim.Native.Nat.{ℕ, ◌+◌, ◌≤◌, ◌<◌}
use native.Mathlib.Nat.{add-zero}
use lib.ListN.{length, get_or}
use borrow.Author.Tests.{lt-ltb, le-ltb, ne_eqb}
use Rattle.base.specs.Outcomes.{Code, code, answered, refused}
use Rattle.format.specs.LittleEndian.{u16_at, u32_at}
use Rattle.format.specs.Maps.{r_place, d_place, p_place, size_of, map_fields}
use Rattle.list.specs.Entries.{entry_fault}
use Rattle.format.specs.EntryFields.{default_r, default_d, seal_of, entry_at, entry_of, fields_entry, default_written}
use Rattle.std.specs.Prelude.{Option, Some}
use Rattle.list.specs.declared.types.Entry.{Entry}
use Rattle.list.specs.declared.types.Frame.{Frame}
use Rattle.format.specs.declared.map.Fields.{Fields}

-- a seal that follows is the number read
pub seal_follows : {follows : Bool} {x y : ℕ} → follows ≡ true → x ≡ y → Some x ≡ seal_of follows y
seal_follows t e = rw (t, e)

-- `entry_at`, field by field, each at the place and with the default that code found
pub entry_is : (f : Frame) (m : Fields) (bs : List ℕ) (serial : ℕ) (seal : Option ℕ) (r d p ri di pi r₀ d₀ : ℕ)
    → serial ≡ u32_at bs 1 → seal ≡ seal_of m.seal (u32_at bs 5)
    → r ≡ cond m.r (u16_at bs ri) r₀ → ri ≡ r_place m → r₀ ≡ default_r f
    → d ≡ cond m.d (u16_at bs di) d₀ → di ≡ d_place m → d₀ ≡ default_d f
    → p ≡ u16_at bs pi → pi ≡ p_place m
    → record { serial = serial; seal = seal; r = r; d = d; p = p; kind = m.kind } ≡ entry_at f m bs
unfolding entry_at
entry_is f m bs serial seal r d p ri di pi r₀ d₀ a b c₁ c₂ c₃ d₁ d₂ d₃ e₁ e₂ =
    rw (a, b, c₁, c₂, c₃, d₁, d₂, d₃, e₁, e₂)

module _ (f : Frame) (at : ℕ) (m : Fields) (bs : List ℕ) where
  pub fields_short : length bs < size_of m → refused (code 1 ((at + length bs) ∷ [])) ≡ fields_entry f at m bs
  unfolding fields_entry
  fields_short h = simp (lt-ltb _ _ h)

  pub fields_default : (e : Entry) → e ≡ entry_at f m bs → size_of m ≤ length bs → default_written f m e ≡ true
      → refused (code 5 (at ∷ [])) ≡ fields_entry f at m bs
  unfolding fields_entry
  fields_default e q h t = rw (← q) (simp (le-ltb _ _ h, t))

  -- rows 16, 6 and 7 decide
  module _ (e : Entry) (q : e ≡ entry_at f m bs) (h : size_of m ≤ length bs) (t : default_written f m e ≡ false) where
    pub fields_refused : {k : Code} → refused k ≡ entry_fault f at e → refused k ≡ fields_entry f at m bs
    unfolding fields_entry
    fields_refused w = rw (← q) (simp (le-ltb _ _ h, t, sym w))

    pub fields_taken : answered tt ≡ entry_fault f at e → (size : ℕ) → size ≡ size_of m → answered (e, size) ≡ fields_entry f at m bs
    unfolding fields_entry
    fields_taken w size z = rw (← q, z) (simp (le-ltb _ _ h, t, sym w))

module _ (f : Frame) (at : ℕ) (bs : List ℕ) where
  pub entry_none : length bs ≡ 0 → refused (code 1 (at ∷ [])) ≡ entry_of f at bs
  unfolding entry_of
  entry_none h = rw h (simp add-zero)

  -- the map byte decides
  module _ (h : length bs ≡ 0 → ⊥) where
    pub entry_broken : {k : Code} → refused k ≡ map_fields at (get_or bs 0 0) → refused k ≡ entry_of f at bs
    unfolding entry_of
    entry_broken e = rw (← e) (simp (ne_eqb _ _ h))

    pub entry_legal : {m : Fields} → answered m ≡ map_fields at (get_or bs 0 0) → fields_entry f at m bs ≡ entry_of f at bs
    unfolding entry_of
    entry_legal e = rw (← e) (simp (ne_eqb _ _ h))
