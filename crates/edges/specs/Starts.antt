-- The search for an entry's least start by edge-finding (source documents 002 and 004), over windows alone: it asks for no plan. That it
-- finds the least start that has one is `StartLaw` of Laws.antt.
use Rattle.std.specs.Prelude.{ℕ, zero, suc, ◌+◌, ◌-◌, min, Bool, true, cond, ◌&&◌, eqb, leb, ltb, None, Option, Some}
use Rattle.windows.specs.Windows.{Windows, put}
use Rattle.windows.specs.RunningSums.{entered}

-- the windows in which entry k needs no minutes: their work is that of the others. Work and intervals ask for no H.
abbrev pub others : Windows → ℕ → Windows
others w k = record { h = 0; n = w.n; r = w.r; d = w.d; p = put k 0 w.p }

-- One left end a of a right end b, where the others have so much work in [a, b): if that work and p minutes more, from the smaller of a
-- and the start s on, do not end by b, then the p minutes begin when the work is done, at a + work or later. The start is raised to that
-- minute, a jump.
abbrev pub jumped : ℕ → ℕ → ℕ → ℕ → ℕ → ℕ
jumped b p a work s = cond (ltb s (a + work) && ltb b (min a s + work + p)) (a + work) s

-- One right end b: the start after the first x places of the order, which has the largest r first. The work is the running sum of request
-- 3.
unfoldable pub raised : Windows → (ℕ → ℕ) → ℕ → ℕ → ℕ → ℕ → ℕ
raised v o b p zero s = s
raised v o b p (suc x) s =
    let t = raised v o b p x s in
    cond (leb (v.d (o x)) b) (jumped b p (v.r (o x)) (entered v o b v.p (suc x)) t) t

-- Whether a pass considers the right end b for an entry with this d: one that begins at the entry's r only those before d, since windows
-- that have a plan have room for the entry from r to d.
abbrev pub considers : Bool → ℕ → ℕ → Bool
considers initial d b = cond initial (ltb b d) true

-- One pass: the start after the right ends of the last j places of the order, the smallest r first, as far as they are above the start and
-- considered. The papers name no order of the right ends; in this one a start that was raised is often raised on in the same pass.
unfoldable pub passed : Windows → (ℕ → ℕ) → ℕ → Bool → ℕ → ℕ → ℕ → ℕ
passed v o p initial d zero s = s
passed v o p initial d (suc j) s =
    let t = passed v o p initial d j s in
    let b = v.d (o (v.n - suc j)) in
    cond (ltb t b && considers initial d b) (raised v o b p v.n t) t

-- Passes from the start s on, until one changes nothing or the window [r, d) is used up. A pass that changes the start raises it by a
-- minute at least, so one pass more than there are starts is enough.
unfoldable pub start_from : Windows → (ℕ → ℕ) → ℕ → ℕ → ℕ → ℕ → ℕ → Option ℕ
start_from v o r d p zero s = None
start_from v o r d p (suc fuel) s =
    cond (ltb d (s + p)) None
    (let t = passed v o p (eqb s r) d v.n s in
    cond (eqb t s) (Some s) (start_from v o r d p fuel t))

-- the search for entry k of the windows w, in this order of the places; a place that is n or more has no start
unfoldable pub start_by_jumps : Windows → (ℕ → ℕ) → ℕ → Option ℕ
start_by_jumps w o k =
    let fuel = suc (suc (w.d k) - (w.r k + w.p k)) in
    cond (ltb k w.n) (start_from (others w k) o (w.r k) (w.d k) (w.p k) fuel (w.r k)) None
