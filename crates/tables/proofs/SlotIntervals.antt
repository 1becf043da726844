-- An overloaded interval of slots has ends c * a and c * b, and the interval shown likewise.
-- Assumes nothing.
use mathlib.Core.Path.{◌≡◌, refl, sym, ap, ◌∙◌, fun_ext}
use mathlib.Core.Logic.{◌↔◌}
use mathlib.Core.Bool.{Bool, true, false, cond, ◌&&◌}
use mathlib.Core.List.{List, [], ◌∷◌}
use Prim.Native.Nat.{ℕ, ◌*◌, ◌/◌, ◌≤◌}
use native.Mathlib.Nat.{mul-sub, mul-div_right}
use native.Mathlib.Omega.{arith}
use lib.Dec.{ltb}
use lib.ListN.{get_or}
use Rattle.base.specs.Outcomes.{Code, code, Outcome, answered, refused, first_of}
use Rattle.base.specs.Counting.{sum, best}
use Rattle.base.proofs.Multiples.{mul_lt, of_mul_lt, of_mul_le, mul_cancel, mul_leb, mul_ltb}
use Rattle.windows.specs.Windows.{Windows}
use Rattle.windows.specs.Intervals.{work, Overloaded, IntervalShown, NoOverload, ShowsOverload, is_overloaded, left_end, right_end}
use Rattle.windows.specs.Intervals.{overload_of}
use Rattle.tables.specs.TableIntervals.{TableOverloaded, NoTableOverload, TableIntervalShown, ShowsTableOverload, is_table_overloaded}
use Rattle.tables.specs.TableIntervals.{table_left_end, table_right_end, table_overload_of}
use Rattle.tables.specs.Slots.{slots}

-- row 9 where the test t holds
abbrev row_of : Code → Bool → Outcome (Unit {0})
row_of k t = first_of (record { holds = t; refusal = k } ∷ []) (answered tt)

module _ (c : ℕ) (some : 1 ≤ c) (w : Windows) where
  pub slot_work : (a b : ℕ) → work (slots c w) (c * a) (c * b) ≡ work w a b
  unfolding work
  slot_work a b =
      ap (sum w.n) (fun_ext (λ i. λ x. cond (mul_leb c some a (w.r i) x && mul_leb c some (w.d i) b x) (w.p i) 0))

  -- The intervals as facts.
  pub to_slots : (a b : ℕ) → TableOverloaded c w a b → Overloaded (slots c w) (c * a) (c * b)
  to_slots a b o =
      record {
        earliest = (o.earliest.0, o.earliest.1, ap (λ (z : ℕ). c * z) o.earliest.2);
        latest = (o.latest.0, o.latest.1, ap (λ (z : ℕ). c * z) o.latest.2);
        interval = mul_lt c some a b o.interval;
        exceeds = omega (arith, o.exceeds, slot_work a b, mul-sub c b a);
      }

  pub of_slots : (a b : ℕ) → Overloaded (slots c w) (c * a) (c * b) → TableOverloaded c w a b
  of_slots a b o =
      record {
        earliest = (o.earliest.0, o.earliest.1, mul_cancel c some _ _ o.earliest.2);
        latest = (o.latest.0, o.latest.1, mul_cancel c some _ _ o.latest.2);
        interval = of_mul_lt c some a b o.interval;
        exceeds = omega (arith, o.exceeds, slot_work a b, mul-sub c b a);
      }

  -- the ends of an overloaded interval of slots are c * a and c * b
  pub slot_ends : (x y : ℕ) → Overloaded (slots c w) x y → (a : ℕ) × (b : ℕ) × (x ≡ c * a) × (y ≡ c * b)
  slot_ends x y o = (w.r o.earliest.0, w.d o.latest.0, sym o.earliest.2, sym o.latest.2)

  of_ends : (x y a b : ℕ) → x ≡ c * a → y ≡ c * b → Overloaded (slots c w) x y → TableOverloaded c w a b
  of_ends x y a b e f o = of_slots a b (rw (e, f) at o)

  pub none_is : NoOverload (slots c w) ↔ NoTableOverload c w
  none_is = (
    λ none a b o. none (c * a) (c * b) (to_slots a b o),
    λ none x y o.
        let z = slot_ends x y o in
        none z.0 z.1 (of_ends x y z.0 z.1 z.2 z.3 o),
  )

  shown_is : (a b : ℕ) → IntervalShown (slots c w) (c * a) (c * b) → TableIntervalShown c w a b
  shown_is a b shown =
      record {
        overloaded = of_slots a b shown.overloaded;
        smallest = λ a' b' z. of_mul_le c some b b' (shown.smallest (c * a') (c * b') (to_slots a' b' z));
        largest = λ a' z. of_mul_le c some a' a (shown.largest (c * a') (to_slots a' b z));
      }

  -- The scans find the same places.
  slot_over : (a b : ℕ) → is_overloaded (slots c w) (c * a) (c * b) ≡ is_table_overloaded c w a b
  slot_over a b = λ x. mul_ltb c some a b x && ltb (sym (mul-sub c b a) x) (slot_work a b x)

  left_is : (b : ℕ) → left_end (slots c w) (c * b) ≡ table_left_end c w b
  unfolding left_end table_left_end
  left_is b =
      λ x.
      best w.n w.n (fun_ext (λ i. slot_over (w.r i) b) x) (fun_ext (λ i. fun_ext (λ k. mul_ltb c some (w.r k) (w.r i))) x)

  right_is : right_end (slots c w) ≡ table_right_end c w
  unfolding right_end table_right_end
  right_is =
      λ x.
      best w.n w.n
      (fun_ext (λ j. ap (λ (k : ℕ). ltb k w.n) (left_is (w.d j))) x)
      (fun_ext (λ i. fun_ext (λ k. mul_ltb c some (w.d i) (w.d k))) x)

  -- the ends found, the test whether there are any, and row 9 of the tables and of the slots
  abbrev end_b : ℕ
  end_b = w.d (table_right_end c w)

  abbrev end_a : ℕ
  end_a = w.r (table_left_end c w end_b)

  abbrev is_found : Bool
  is_found = ltb (table_right_end c w) w.n

  abbrev table_code : Code
  table_code = code 9 (end_a ∷ end_b ∷ work w end_a end_b ∷ [])

  abbrev slot_code : Code
  slot_code = code 9 (c * end_a ∷ c * end_b ∷ work w end_a end_b ∷ [])

  slot_overload : overload_of (slots c w) ≡ row_of slot_code is_found
  unfolding overload_of
  slot_overload =
      (λ x.
      let j = right_is x in
      let b = c * w.d j in
      let a = c * w.r (left_end (slots c w) b) in
      row_of (code 9 (a ∷ b ∷ work (slots c w) a b ∷ [])) (ltb j w.n))
      ∙ (λ x.
      let a = c * w.r (left_is end_b x) in
      row_of (code 9 (a ∷ c * end_b ∷ work (slots c w) a (c * end_b) ∷ [])) is_found)
      ∙ (λ x. row_of (code 9 (c * end_a ∷ c * end_b ∷ slot_work end_a end_b x ∷ [])) is_found)

  table_overload : table_overload_of c w ≡ row_of table_code is_found
  unfolding table_overload_of
  table_overload = refl

  -- What the slots' answer tells of the tables' answer.
  pub accepted_is : (overload_of (slots c w) ≡ answered tt) ↔ (table_overload_of c w ≡ answered tt)
  accepted_is = (
    λ e. table_overload ∙ go slot_code table_code is_found (sym slot_overload ∙ e),
    λ e. slot_overload ∙ go table_code slot_code is_found (sym table_overload ∙ e),
  )
    where
      go : (j k : Code) (t : Bool) → row_of j t ≡ answered tt → row_of k t ≡ answered tt
      go j k true z = let q : ◌≡◌ {A = ℕ} 0 1 = cc z in absurd (omega arith)
      go j k false z = refl

  -- a refusal of the one is its row 9, and so is one of the other
  both_refuse : (x y k : Code) (t : Bool) → row_of x t ≡ refused k → (k ≡ x) × (row_of y t ≡ refused y)
  both_refuse x y k true z = (cc z, refl)
  both_refuse x y k false z = let q : ◌≡◌ {A = ℕ} 0 1 = cc z in absurd (omega arith)

  pub refused_is : (k : Code) → overload_of (slots c w) ≡ refused k → (k ≡ slot_code) × (table_overload_of c w ≡ refused table_code)
  refused_is k e =
      let z = both_refuse slot_code table_code k is_found (sym slot_overload ∙ e) in
      (z.0, table_overload ∙ z.1)

  pub is_refused : (k : Code) → table_overload_of c w ≡ refused k → (k ≡ table_code) × (overload_of (slots c w) ≡ refused slot_code)
  is_refused k e =
      let z = both_refuse table_code slot_code k is_found (sym table_overload ∙ e) in
      (z.0, slot_overload ∙ z.1)

  -- the slots' row 9, its ends divided by c, is that of the tables
  pub divided_is : (x y z : ℕ) → overload_of (slots c w) ≡ refused (code 9 (x ∷ y ∷ z ∷ []))
      → table_overload_of c w ≡ refused (code 9 (x / c ∷ y / c ∷ z ∷ []))
  divided_is x y z e =
      let q = refused_is _ e in
      let xs : ◌≡◌ {A = List ℕ} (x ∷ y ∷ z ∷ []) _ = ap (λ (k : Code). k.carries) q.0 in
      let a : x / c ≡ end_a = ap (λ (l : List ℕ). get_or l 0 0 / c) xs ∙ mul-div_right end_a {m = c} some in
      let b : y / c ≡ end_b = ap (λ (l : List ℕ). get_or l 1 0 / c) xs ∙ mul-div_right end_b {m = c} some in
      let v : z ≡ work w end_a end_b = ap (λ (l : List ℕ). get_or l 2 0) xs in
      q.1 ∙ (λ i. refused (code 9 (sym a i ∷ sym b i ∷ sym v i ∷ [])))

  pub shows_is : ((k : Code) → overload_of (slots c w) ≡ refused k → ShowsOverload (slots c w) k)
      → (k : Code) → table_overload_of c w ≡ refused k → ShowsTableOverload c w k
  shows_is says k e =
      let z = is_refused k e in
      let s = says slot_code z.1 in
      let xs : ◌≡◌ {A = List ℕ} _ _ = ap (λ (k : Code). k.carries) (sym s.carries) in
      let a : s.a ≡ c * end_a = ap (λ (l : List ℕ). get_or l 0 0) xs in
      let b : s.b ≡ c * end_b = ap (λ (l : List ℕ). get_or l 1 0) xs in
      record {
        a = end_a;
        b = end_b;
        carries = z.0;
        shown = shown_is end_a end_b (rw (a, b) at s.shown);
      }
