-- The starts without a plan, by the work of the other entries: starts that an interval bars, that jumps pass no others, and that where no
-- right end jumps no interval bars the start.
-- Assumes nothing.
use mathlib.Core.Path.{◌≡◌, refl, sym, ap, ◌∙◌}
use mathlib.Core.Bool.{Bool, true, ◌&&◌}
use Prim.Native.Nat.{ℕ, zero, suc, ◌+◌, ◌-◌, ◌<◌, ◌≤◌, min, max}
use native.Mathlib.Omega.{arith}
use borrow.Author.Tests.{le-leb, leb-true, lt-ltb, le-ltb}
use lib.Dec.{leb, ltb}
use Rattle.base.specs.Counting.{sum}
use Rattle.base.proofs.Sums.{cond_cases, le_or_lt, same_cases, between_le, sum_cong, sum_more}
use Rattle.base.proofs.Permutations.{once_in, once_has, once_sum}
use Rattle.base.proofs.Searches.{reverse_twice}
use Rattle.windows.specs.Windows.{Windows}
use Rattle.windows.specs.Intervals.{work, Fits}
use Rattle.windows.specs.RunningSums.{LatestReleaseFirst, entered}
use Rattle.windows.proofs.IntervalWork.{in_interval}
use Rattle.windows.proofs.RunningSums.{falls}
use Rattle.windows.proofs.Endpoints.{work_wider, work_spans}
use Rattle.edges.specs.Starts.{jumped, raised, considers, passed}

-- One left end.
module _ (b p a work s : ℕ) where
  pub jump_goes : s < a + work → b < min a s + work + p → a + work ≡ jumped b p a work s
  jump_goes h g = rw (lt-ltb s (a + work) h, lt-ltb b (min a s + work + p) g)

jumped_cases : (b p a work s : ℕ) (G : ℕ → Type 0) → (s < a + work → b < min a s + work + p → G (a + work))
    → ((s < a + work → b < min a s + work + p → ⊥) → G s) → G (jumped b p a work s)
jumped_cases b p a work s G goes stays =
    le_or_lt (a + work) s
    (λ h. rw (le-ltb s (a + work) h) (stays (λ l _. omega (arith, l))))
    (λ h.
    le_or_lt (min a s + work + p) b
    (λ g. rw (lt-ltb s (a + work) h, le-ltb b (min a s + work + p) g) (stays (λ _ l. omega (arith, l))))
    (λ g. rw (lt-ltb s (a + work) h, lt-ltb b (min a s + work + p) g) (goes h g)))

jumped_up : (b p a work s : ℕ) → s ≤ jumped b p a work s
jumped_up b p a work s = jumped_cases b p a work s (λ t. s ≤ t) (λ h _. omega (arith, h)) (λ _. omega arith)

-- A row and a pass never lower the start.
module _ (v : Windows) (o : ℕ → ℕ) (p : ℕ) where
  raised_next : (b x s : ℕ) → raised v o b p x s ≤ raised v o b p (suc x) s
  unfolding raised
  raised_next b x s =
      cond_cases (λ t. raised v o b p x s ≤ t) (leb (v.d (o x)) b) _ _
      (λ _. jumped_up b p (v.r (o x)) (entered v o b v.p (suc x)) (raised v o b p x s))
      (λ _. omega arith)

  raised_up : (b x s : ℕ) → s ≤ raised v o b p x s
  unfolding raised
  raised_up b zero s = omega arith
  raised_up b (suc x) s = omega (arith, raised_up b x s, raised_next b x s)

  -- the right end that a pass asks after j others
  abbrev end : ℕ → ℕ
  end j = v.d (o (v.n - suc j))

  passed_next : (initial : Bool) (d j s : ℕ) → passed v o p initial d j s ≤ passed v o p initial d (suc j) s
  unfolding passed
  passed_next initial d j s =
      cond_cases (λ t. passed v o p initial d j s ≤ t) (ltb (passed v o p initial d j s) (end j) && considers initial d (end j)) _ _
      (λ _. raised_up (end j) v.n (passed v o p initial d j s))
      (λ _. omega arith)

  pub passed_up : (initial : Bool) (d j s : ℕ) → s ≤ passed v o p initial d j s
  unfolding passed
  passed_up initial d zero s = omega arith
  passed_up initial d (suc j) s = omega (arith, passed_up initial d j s, passed_next initial d j s)

-- an interval that would hold the entry, with p minutes from t on, has too much work for it
pub record Barred (v : Windows) (p t : ℕ) : Type 0 where
  pub a : ℕ
  pub b : ℕ
  pub left : a ≤ t
  pub right : t + p ≤ b
  pub full : b < a + work v a b + p

-- the right end b makes no jump from s
abbrev pub Quiet : Windows → ℕ → ℕ → ℕ → Type 0
Quiet v p b s = (a : ℕ) → 1 ≤ work v a b → b < min a s + work v a b + p → s < a + work v a b → ⊥

-- entries that are counted at a left end above s need a minute
abbrev pub Busy : Windows → ℕ → Type 0
Busy v s = (i : ℕ) → i < v.n → s < v.r i → 1 ≤ v.p i

-- a jump passes barred starts only: work that is done from a on, with p minutes from a or s on, does not end by b
jump_barred : (v : Windows) (p a b s w : ℕ) → 1 ≤ w → w ≤ work v a b → b < min a s + w + p → (t : ℕ) → s ≤ t → t < a + w → Barred v p t
jump_barred v p a b s w some within over t from less =
    record {
      a = min a t;
      b = max b (t + p);
      left = omega arith;
      right = omega arith;
      full = omega (arith, some, within, over, from, less, work_wider v a b (min a t) (max b (t + p)) (omega arith) (omega arith));
    }

module _ (v : Windows) (o : ℕ → ℕ) (order : LatestReleaseFirst v o) (p : ℕ) where
  module _ (b : ℕ) where
    -- what the first x places of the order have in [a, b)
    abbrev part : ℕ → ℕ → ℕ
    part a x = sum x (λ y. in_interval v a b (o y))

    -- for a left end at most the last r, it is what entered
    entered_part : (a x : ℕ) → x < v.n → a ≤ v.r (o x) → entered v o b v.p (suc x) ≡ part a (suc x)
    entered_part a x below low =
        sum_cong (suc x) _ _
        (λ y l. rw (le-leb a (v.r (o y)) (omega (arith, low, falls v o order y x (omega (arith, l)) below))) refl)

    entered_work : (x : ℕ) → x < v.n → entered v o b v.p (suc x) ≤ work v (v.r (o x)) b
    unfolding work
    entered_work x below =
        let f : ℕ → ℕ = in_interval v (v.r (o x)) b in
        omega (
          arith,
          entered_part (v.r (o x)) x below (omega arith),
          sum_more v.n (suc x) (λ y. f (o y)) below,
          once_sum v.n o order.once f,
        )

    entered_some : (x : ℕ) → v.d (o x) ≤ b → v.p (o x) ≤ entered v o b v.p (suc x)
    unfolding sum
    entered_some x in_b = rw (le-leb (v.d (o x)) b in_b) (omega arith)

    raised_in : (x s : ℕ) → v.d (o x) ≤ b
        → raised v o b p (suc x) s ≡ jumped b p (v.r (o x)) (entered v o b v.p (suc x)) (raised v o b p x s)
    unfolding raised
    raised_in x s in_b = rw (le-leb (v.d (o x)) b in_b) refl

    -- a box that is out of [a, b)
    part_same : (a x : ℕ) → in_interval v a b (o x) ≤ 0 → part a (suc x) ≡ part a x
    unfolding sum
    part_same a x none = omega (arith, none)

    module _ (s₀ : ℕ) where
      pub raised_barred : Busy v s₀ → (x : ℕ) → x ≤ v.n → (t : ℕ) → s₀ ≤ t → t < raised v o b p x s₀ → Barred v p t
      unfolding raised
      raised_barred busy zero l = λ t from less. absurd (omega (arith, from, less))
      raised_barred busy (suc x) l =
          let s = raised v o b p x s₀ in
          let w = entered v o b v.p (suc x) in
          let so = raised_barred busy x (omega (arith, l)) in
          cond_cases (λ z. (t : ℕ) → s₀ ≤ t → t < z → Barred v p t) (leb (v.d (o x)) b) _ _
          (λ e.
          let in_b = leb-true (v.d (o x)) b e in
          let some : s < v.r (o x) + w → 1 ≤ w =
          λ up. le_or_lt (v.r (o x)) s₀
          (λ q. omega (arith, up, q, raised_up v o p b x s₀))
          (λ q. omega (arith, busy (o x) (once_in v.n o order.once x l) q, entered_some x in_b)) in
          jumped_cases b p (v.r (o x)) w s (λ z. (t : ℕ) → s₀ ≤ t → t < z → Barred v p t)
          (λ up over t from less.
          le_or_lt s t
          (λ q. jump_barred v p (v.r (o x)) b s w (some up) (entered_work x l) over t q less)
          (λ q. so t from q))
          (λ _. so))
          (λ _. so)

      raised_quiet : (x : ℕ) → x ≤ v.n → raised v o b p x s₀ ≡ s₀
          → (a : ℕ) → 1 ≤ part a x → b < min a s₀ + part a x + p → s₀ < a + part a x → ⊥
      unfolding sum
      raised_quiet zero l e a some over up = omega (arith, some)
      raised_quiet (suc x) l e a some over up =
          let w = entered v o b v.p (suc x) in
          let before : raised v o b p x s₀ ≡ s₀ = omega (arith, e, raised_up v o p b x s₀, raised_next v o p b x s₀) in
          let still : part a (suc x) ≡ part a x → ⊥ =
          λ z. raised_quiet x (omega (arith, l)) before a (omega (arith, some, z)) (omega (arith, over, z)) (omega (arith, up, z)) in
          le_or_lt (v.d (o x)) b
          (λ in_b.
          le_or_lt a (v.r (o x))
          (λ low.
          let z = entered_part a x l low in
          let goes = jump_goes b p (v.r (o x)) w s₀ (omega (arith, up, z, low)) (omega (arith, over, z, low)) in
          let same : jumped b p (v.r (o x)) w s₀ ≡ s₀ =
          ap (jumped b p (v.r (o x)) w) (sym before) ∙ sym (raised_in x s₀ in_b) ∙ e in
          omega (arith, goes, same, up, z, low))
          (λ high. still (part_same a x (between_le a b _ _ _ 0 (λ q _. omega (arith, q, high))))))
          (λ out. still (part_same a x (between_le a b _ _ _ 0 (λ _ q. omega (arith, q, out)))))

      -- a row that changes nothing makes no jump
      pub row_quiet : raised v o b p v.n s₀ ≡ s₀ → Quiet v p b s₀
      unfolding work
      row_quiet e a some over up =
          let z : part a v.n ≡ work v a b = once_sum v.n o order.once (in_interval v a b) in
          raised_quiet v.n (omega arith) e a (omega (arith, some, z)) (omega (arith, over, z)) (omega (arith, up, z))

  -- A pass.
  module _ (initial : Bool) (d s₀ : ℕ) where
    abbrev at : ℕ → ℕ
    at j = passed v o p initial d j s₀

    pub passed_barred : Busy v s₀ → (j : ℕ) → (t : ℕ) → s₀ ≤ t → t < at j → Barred v p t
    unfolding passed
    passed_barred busy zero = λ t from less. absurd (omega (arith, from, less))
    passed_barred busy (suc j) =
        let so = passed_barred busy j in
        cond_cases (λ z. (t : ℕ) → s₀ ≤ t → t < z → Barred v p t) (ltb (at j) (end v o p j) && considers initial d (end v o p j)) _ _
        (λ _ t from less.
        le_or_lt (at j) t
        (λ q. raised_barred (end v o p j) (at j) (λ i below high. busy i below (omega (arith, high, passed_up v o p initial d j s₀)))
        v.n (omega arith) t q less)
        (λ q. so t from q))
        (λ _. so)

    -- one that changes nothing has only right ends that make no jump, of those that it considers
    pass_quiet : (j : ℕ) → at j ≡ s₀ → (x : ℕ) → x < j → s₀ < end v o p x → considers initial d (end v o p x) ≡ true
        → Quiet v p (end v o p x) s₀
    unfolding passed
    pass_quiet zero e x below high asked = absurd (omega (arith, below))
    pass_quiet (suc j) e x below high asked =
        let before : at j ≡ s₀ = omega (arith, e, passed_up v o p initial d j s₀, passed_next v o p initial d j s₀) in
        same_cases x j
        (λ q _.
        let row : raised v o (end v o p j) p v.n s₀ ≡ s₀ =
        rw (before, lt-ltb s₀ (end v o p j) (rw q at high), rw q at asked) at e in
        rw q (row_quiet (end v o p j) s₀ row))
        (λ ne _. pass_quiet j before x (omega (arith, below, ne)) high asked)

    -- each place has its turn
    pub passed_quiet : at v.n ≡ s₀ → (i : ℕ) → i < v.n → s₀ < v.d i → considers initial d (v.d i) ≡ true → Quiet v p (v.d i) s₀
    passed_quiet e i below high asked =
        let z = once_has v.n o order.once i below in
        let x = v.n - suc z.0 in
        let here : end v o p x ≡ v.d i = ap (λ (y : ℕ). v.d (o y)) (reverse_twice v.n z.0 z.1) ∙ ap v.d z.2 in
        rw here at (pass_quiet v.n e x (omega (arith, z.1)) (rw here high) (rw here asked))

-- where no right end makes a jump from s, every interval that would hold p minutes from s on has room for them
pub quiet_clear : (v : Windows) (p s : ℕ) → ((j : ℕ) → j < v.n → Quiet v p (v.d j) s)
    → (a b : ℕ) → a ≤ s → s + p ≤ b → work v a b + p ≤ b - a
quiet_clear v p s quiet a b left right =
    le_or_lt (work v a b + p) (b - a) (λ h. h)
    (λ h.
    let z = work_spans v a b (omega (arith, h, left, right)) in
    let j = z.1 in
    let spans = z.2 in
    let more = work_wider v (v.r z.0) (v.d j) a (v.d j) spans.from (omega arith) in
    absurd
    (quiet j spans.last a
    (omega (arith, h, left, right, spans.no_less, more))
    (omega (arith, h, left, right, spans.no_less, more, spans.due))
    (omega (arith, h, left, right, spans.no_less, more))))

-- where no interval is overloaded, a right end that is not above s makes no jump from s
pub low_quiet : (v : Windows) (p b s : ℕ) → Fits v → b ≤ s → Quiet v p b s
low_quiet v p b s fits low a some over up = omega (arith, fits a b, some, over, up, low)
