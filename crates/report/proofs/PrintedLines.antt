-- The numbers that lines say are those of which they were made.
-- Assumes nothing.
use mathlib.Core.Path.{◌≡◌, refl, sym, ap, ◌∙◌}
use mathlib.Core.Bool.{Bool, true, false, cond}
use mathlib.Core.List.{List, [], ◌∷◌, ◌++◌, map, map-append}
use Prim.Native.Nat.{ℕ, zero, suc, ◌<◌, ◌≤◌}
use native.Mathlib.Omega.{arith}
use borrow.Author.Tests.{ne_eqb}
use lib.ListN.{length, get_or, take, drop, get_or-append}
use lib.Dec.{eqb}
use lib.Seq.{take-suc, take_all, drop_at}
use Rattle.base.specs.Outcomes.{Code, code}
use Rattle.list.specs.DayLists.{blank, day_list}
use Rattle.std.specs.Prelude.{None, Option, Some}
use Rattle.list.specs.declared.types.Kind.{Kind}
use Rattle.list.specs.declared.types.Kind.TheVariants.{Pause, Whole}
use Rattle.list.specs.declared.types.Entry.{Entry}
use Rattle.base.specs.Counting.{list_of}
use Rattle.report.specs.Text.{ascii, decimal, line}
use Rattle.report.specs.Reports.{seal_text, kind_text, refusal_line}
use Rattle.report.specs.Printed.{LineFields, lines_of, line_at, number_in, same_field, seal_said, kind_said, entry_said, list_printed}
use Rattle.report.specs.Printed.{day_printed, count_printed, moves_printed, broken_printed, place_printed, end_printed, start_printed}
use Rattle.report.specs.Printed.{runs_printed, code_printed}
use Rattle.report.specs.Laws.{LineLaw}
use Rattle.report.proofs.DecimalFacts.{decimal_is}
use Rattle.report.proofs.Fields.{Word, Words, decimal_word, line_alone, kept, all_length, all_at}

-- The head line.

abbrev pub head_fields : ℕ → ℕ → ℕ → ℕ → LineFields
head_fields h n moves broken =
    ascii "day"
    ∷ decimal h
    ∷ ascii "entries"
    ∷ decimal n
    ∷ ascii "moves"
    ∷ decimal moves
    ∷ ascii "broken"
    ∷ decimal broken
    ∷ []

pub head_words : (h n moves broken : ℕ) → Words (head_fields h n moves broken)
unfolding ascii
head_words h n moves broken = search (decimal_word, arith) depth 12

-- An entry's line.

abbrev pub entry_fields : ℕ → Entry → ℕ → ℕ → LineFields
entry_fields place e end start =
    decimal place
    ∷ decimal e.serial
    ∷ seal_text e.seal
    ∷ kind_text e.kind
    ∷ decimal e.r
    ∷ decimal e.d
    ∷ decimal e.p
    ∷ decimal end
    ∷ decimal start
    ∷ []

seal_word : (s : Option ℕ) → Word (seal_text s)
unfolding ascii
seal_word None = omega arith
seal_word (Some x) = decimal_word x

kind_word : (k : Kind) → Word (kind_text k)
unfolding ascii
kind_word Pause = omega arith
kind_word Whole = omega arith

pub entry_words : (place : ℕ) (e : Entry) (end start : ℕ) → Words (entry_fields place e end start)
entry_words place e end start = search (decimal_word, seal_word, kind_word) depth 12

-- `-` is no number
no_dash : (f : List ℕ) → 1 ≤ length f → 48 ≤ get_or f 0 0 → same_field f (ascii "-") ≡ false
unfolding ascii
no_dash [] some digit = absurd (omega arith)
no_dash (b ∷ f) some digit = rw (ne_eqb b 45 (λ e. omega arith))

seal_said_lem : (s : Option ℕ) → seal_said (seal_text s) ≡ s
unfolding ascii
seal_said_lem None = refl
seal_said_lem (Some x) =
    let is = decimal_is x in
    rw (no_dash (decimal x) is.some (is.each 0 is.some).0, is.value)

kind_said_lem : (k : Kind) → kind_said (kind_text k) ≡ k
unfolding ascii
kind_said_lem Pause = refl
kind_said_lem Whole = refl

entry_said_lem : (place : ℕ) (e : Entry) (end start : ℕ) → entry_said (entry_fields place e end start) ≡ e
entry_said_lem place e end start =
    λ j.
    record {
      serial = (decimal_is e.serial).value j;
      seal = seal_said_lem e.seal j;
      r = (decimal_is e.r).value j;
      d = (decimal_is e.d).value j;
      p = (decimal_is e.p).value j;
      kind = kind_said_lem e.kind j;
    }

-- the entries at the places below k of a list
entries_taken : (f : ℕ → Entry) (es : List Entry) (k : ℕ) → k ≤ length es → ((i : ℕ) → i < k → f i ≡ get_or es i blank)
    → map f (list_of k (λ i. i)) ≡ take k es
unfolding list_of
entries_taken f es zero l each = refl
entries_taken f es (suc k) l each =
    map-append f (list_of k (λ i. i)) (k ∷ [])
    ∙ rw (take-suc es k blank l, entries_taken f es k (omega arith) (λ i h. each i (omega arith)), each k (omega arith))

-- a text with these lines: the head line, those of the n entries e with their ends and starts, and those of the runs
pub record Lines (text : List ℕ) (h n moves broken : ℕ) (e : ℕ → Entry) (end start : ℕ → ℕ) (runs : List LineFields) : Type 0 where
  pub said : lines_of text ≡ head_fields h n moves broken ∷ (kept n (λ _. true) (λ i. entry_fields i (e i) (end i) (start i)) ++ runs)

-- what it says
module _ {text : List ℕ} {h n moves broken : ℕ} {e : ℕ → Entry} {end start : ℕ → ℕ} {runs : List LineFields}
    (lines : Lines text h n moves broken e end start runs) where
  abbrev fields : ℕ → LineFields
  fields i = entry_fields i (e i) (end i) (start i)

  head_is : line_at text 0 ≡ head_fields h n moves broken
  head_is = ap (λ (ls : List LineFields). get_or ls 0 []) lines.said

  pub day_is : day_printed text ≡ h
  day_is = ap (λ (fs : LineFields). number_in fs 1) head_is ∙ (decimal_is h).value

  pub count_is : count_printed text ≡ n
  count_is = ap (λ (fs : LineFields). number_in fs 3) head_is ∙ (decimal_is n).value

  pub moves_is : moves_printed text ≡ moves
  moves_is = ap (λ (fs : LineFields). number_in fs 5) head_is ∙ (decimal_is moves).value

  pub broken_printed_is : broken_printed text ≡ broken
  broken_printed_is = ap (λ (fs : LineFields). number_in fs 7) head_is ∙ (decimal_is broken).value

  line_is : (i : ℕ) → i < n → line_at text (suc i) ≡ fields i
  line_is i l =
      ap (λ (ls : List LineFields). get_or ls (suc i) []) lines.said
      ∙ get_or-append (kept n (λ _. true) fields) runs [] i (omega (arith, all_length fields n))
      ∙ all_at fields n i l

  -- the same fields, of the numbers that the lines say
  pub head_line_lem : line_at text 0 ≡ head_fields (day_printed text) (count_printed text) (moves_printed text) (broken_printed text)
  head_line_lem = head_is ∙ sym (λ j. head_fields (day_is j) (count_is j) (moves_is j) (broken_printed_is j))

  pub place_is : (i : ℕ) → i < n → place_printed text i ≡ i
  place_is i l = ap (λ (fs : LineFields). number_in fs 0) (line_is i l) ∙ (decimal_is i).value

  pub end_printed_is : (i : ℕ) → i < n → end_printed text i ≡ end i
  end_printed_is i l = ap (λ (fs : LineFields). number_in fs 7) (line_is i l) ∙ (decimal_is (end i)).value

  pub start_printed_is : (i : ℕ) → i < n → start_printed text i ≡ start i
  start_printed_is i l = ap (λ (fs : LineFields). number_in fs 8) (line_is i l) ∙ (decimal_is (start i)).value

  pub entry_line_lem : (i : ℕ) → i < n → line_at text (suc i)
      ≡ entry_fields (place_printed text i) (entry_said (line_at text (suc i))) (end_printed text i) (start_printed text i)
  entry_line_lem i l =
      let said : entry_said (line_at text (suc i)) ≡ e i = ap entry_said (line_is i l) ∙ entry_said_lem i (e i) (end i) (start i) in
      line_is i l ∙ sym (λ j. entry_fields (place_is i l j) (said j) (end_printed_is i l j) (start_printed_is i l j))

  pub runs_is : runs_printed text ≡ runs
  runs_is =
      ap (λ (k : ℕ). drop (suc k) (lines_of text)) count_is
      ∙ ap (λ (ls : List LineFields). drop (suc n) ls) lines.said
      ∙ drop_at (kept n (λ _. true) fields) runs n (all_length fields n)

  pub list_printed_is : (opening : ℕ) (es : List Entry) → length es ≡ n → ((i : ℕ) → i < n → e i ≡ get_or es i blank)
      → list_printed opening text ≡ day_list (record { h = h; opening = opening }) es
  unfolding list_printed
  list_printed_is opening es long each =
      λ j. day_list (record { h = day_is j; opening = opening }) (all j)
    where
      at : ℕ → Entry
      at i = entry_said (line_at text (suc i))

      all : map at (list_of (count_printed text) (λ i. i)) ≡ es
      all =
          ap (λ (k : ℕ). map at (list_of k (λ i. i))) count_is
          ∙ entries_taken at es n (omega (arith, long))
          (λ i l. ap entry_said (line_is i l) ∙ entry_said_lem i (e i) (end i) (start i) ∙ each i l)
          ∙ take_all n es (omega (arith, long))

-- A refusal's line: that of row 9, which carries three values, and those of the others, which carry one.

abbrev nine_fields : ℕ → ℕ → ℕ → LineFields
nine_fields a b c =
    ascii "refused" ∷ decimal 9 ∷ ascii "from" ∷ decimal a ∷ ascii "to" ∷ decimal b ∷ ascii "work" ∷ decimal c ∷ []

nine_words : (a b c : ℕ) → Words (nine_fields a b c)
unfolding ascii
nine_words a b c = search (decimal_word, arith) depth 12

pub nine_said : (a b c : ℕ) → code_printed (refusal_line (code 9 (a ∷ b ∷ c ∷ []))) ≡ code 9 (a ∷ b ∷ c ∷ [])
unfolding code_printed refusal_line
nine_said a b c =
    let value : (x : ℕ) → _ ≡ x = λ x. (decimal_is x).value in
    rw (line_alone (nine_fields a b c) (nine_words a b c), value 9, value a, value b, value c)

module _ (k x : ℕ) (other : k ≡ 9 → ⊥) where
  -- where this word stands before the value
  with_word : (word : List ℕ) → Word word → code_printed (line (ascii "refused" ∷ decimal k ∷ word ∷ decimal x ∷ [])) ≡ code k (x ∷ [])
  unfolding code_printed ascii
  with_word word w =
      let words : Words (ascii "refused" ∷ decimal k ∷ word ∷ decimal x ∷ []) = search (decimal_word, w, arith) depth 12 in
      rw (line_alone _ words, (decimal_is k).value, (decimal_is x).value, ne_eqb k 9 other)

  pub one_said : code_printed (refusal_line (code k (x ∷ []))) ≡ code k (x ∷ [])
  unfolding refusal_line ascii
  one_said = rw (ne_eqb k 9 other) (go (eqb k 10))
    where
      go : (ten : Bool)
          → code_printed (line (ascii "refused" ∷ decimal k ∷ cond ten (ascii "entry" ∷ decimal x ∷ []) (ascii "at" ∷ decimal x ∷ [])))
          ≡ code k (x ∷ [])
      go true = with_word (ascii "entry") (omega arith)
      go false = with_word (ascii "at") (omega arith)

-- the fields of every refusal's line
module _ (k : Code) where
  pub line_law : LineLaw k
  unfolding refusal_line ascii
  line_law =
      record {
        nine = λ z. rw z (line_alone _ (nine_words (get_or k.carries 0 0) (get_or k.carries 1 0) (get_or k.carries 2 0)));
        ten = λ z. rw z (line_alone _ (search (decimal_word, arith) depth 12));
        other = λ nine ten. rw (ne_eqb _ _ nine, ne_eqb _ _ ten) (line_alone _ (search (decimal_word, arith) depth 12));
      }
