-- What the first byte of a token says of it (`lead_of`): which tests of the definition it passes, by a computed test over all bytes each
-- (`sorted`); so its sort, and that a run of the sort goes on from the next byte. Assumes nothing.
use Prim.Native.Nat.{ℕ, ◌+◌, ◌-◌, ◌<◌}
use native.Mathlib.Omega.{arith}
use mathlib.Core.Path.{◌≡◌, refl, sym, ap, subst, ◌∙◌}
use mathlib.Core.Bool.{Bool, true, false, beq, not, ◌&&◌, ◌||◌, and-true}
use mathlib.Core.List.{List}
use lib.ListN.{get_or, drop}
use lib.Seq.{drop-cons, get_or-drop}
use lib.Dec.{eqb, ltb}
use borrow.Author.Tests.{not-true}
use Rattle.predictive.proofs.Tests.{never, or_neither}
use Rattle.aadl.specs.Kinds.{#◌, WHITESPACE, COMMENT, INTEGER_LIT, STRING_LIT, IDENT}
use Rattle.aadl.specs.Bytes.{peek, is_whitespace, is_digit, is_ident_start, is_ident_continue, not_lf, run, run_end}
use Rattle.aadl.specs.Tokens.{token, string_of, string_lit, number_of, number_lit, word_of, marks, mark_of, token_of}
use Rattle.aadl.proofs.RunLaws.{run_more, run-rest}
use Rattle.aadl.proofs.Bools.{below, below_at}
use Rattle.classes.specs.Classes.{BEGINS_OTHERS, lead_of}
use Rattle.classes.proofs.ClassTable.{beq_true}
use Rattle.scan.specs.Places.{Begins, Other, Dashes}

-- what all bytes with a property have, by a test of each byte
pub all-bytes : (p g : ℕ → Bool) → below (λ (b : ℕ). not (p b) || g b) 256 ≡ true → (b : ℕ) → b < 256 → p b ≡ true → g b ≡ true
all-bytes p g t b l e = rw e at (below_at (λ (b : ℕ). not (p b) || g b) 256 t b l)

-- What the first byte says tells which of the tests that a token's definition makes of it hold; `-` is a mark that others begin with.
pub record Sorted (k b : ℕ) : Type 0 where
  pub white : is_whitespace b ≡ eqb k (# WHITESPACE)
  pub quote : eqb b 34 ≡ eqb k (# STRING_LIT)
  pub digit : is_digit b ≡ eqb k (# INTEGER_LIT)
  pub name : is_ident_start b ≡ eqb k (# IDENT)
  dash : (eqb b 45 && ltb k BEGINS_OTHERS) ≡ false

agree : (p : ℕ → Bool) (c : ℕ) → below (λ (b : ℕ). beq (p b) (eqb (lead_of b) c)) 256 ≡ true → (b : ℕ) → b < 256 → p b ≡ eqb (lead_of b) c
agree p c t b h = beq_true (p b) (eqb (lead_of b) c) (below_at (λ (b : ℕ). beq (p b) (eqb (lead_of b) c)) 256 t b h)

sorted : (b : ℕ) → b < 256 → Sorted (lead_of b) b
unfolding marks
sorted b h =
    record {
      white = agree is_whitespace (# WHITESPACE) refl b h;
      quote = agree (λ (b : ℕ). eqb b 34) (# STRING_LIT) refl b h;
      digit = agree is_digit (# INTEGER_LIT) refl b h;
      name = agree is_ident_start (# IDENT) refl b h;
      dash = not-true _ (below_at (λ (b : ℕ). not (eqb b 45 && ltb (lead_of b) BEGINS_OTHERS)) 256 refl b h);
    }

module _ (s : List ℕ) (at k : ℕ) (h : Begins s at k) where
  -- the byte, as the definition of a token looks at it
  pub first_byte : get_or s at 0 ≡ peek (drop at s) 0
  first_byte = ap (λ (bs : List ℕ). get_or bs 0 0) (sym (drop-cons s at 0 h.inside))

  first-sorted : Sorted k (peek (drop at s) 0)
  first-sorted = subst (Sorted k) first_byte (subst (λ (j : ℕ). Sorted j (get_or s at 0)) h.leads (sorted (get_or s at 0) h.byte))

  -- what says no mark that others begin with is no `-`
  no_dash : ltb k BEGINS_OTHERS ≡ true → eqb (peek (drop at s) 0) 45 ≡ false
  no_dash t = let d = eqb (peek (drop at s) 0) 45 in sym (and-true d) ∙ ap (λ (u : Bool). d && u) (sym t) ∙ first-sorted.dash

  -- a run to which the byte belongs goes on from the next one
  run_on : (g : ℕ → Bool) → g (peek (drop at s) 0) ≡ true → run_end g s (at + 1) - at ≡ run g (drop at s)
  run_on g t = ap (λ (e : ℕ). e - at) (sym (run_more g s at h.inside (ap g first_byte ∙ t))) ∙ run-rest g s at

-- THE SORTS ------------------------------------------------------------------------------------------------------------

module _ (s : List ℕ) (at : ℕ) where
  pub white-token : Begins s at (# WHITESPACE) → token (# WHITESPACE) (run_end is_whitespace s (at + 1) - at) ≡ token_of (drop at s)
  unfolding token_of
  white-token h =
      let z = first-sorted s at _ h in
      ap (token (# WHITESPACE)) (run_on s at _ h is_whitespace z.white) ∙ rw z.white refl

  pub string-token : Begins s at (# STRING_LIT) → string_lit (string_of (drop at s)) ≡ token_of (drop at s)
  unfolding token_of
  string-token h =
      let z = first-sorted s at _ h in
      rw (z.white, no_dash s at _ h refl, z.quote) refl

  pub digits-token : Begins s at (# INTEGER_LIT) → number_lit (number_of (drop at s)) ≡ token_of (drop at s)
  unfolding token_of
  digits-token h =
      let z = first-sorted s at _ h in
      rw (z.white, no_dash s at _ h refl, z.quote, z.digit) refl

  pub word-token : Begins s at (# IDENT) → word_of (drop at s) ≡ token_of (drop at s)
  unfolding token_of
  word-token h =
      let z = first-sorted s at _ h in
      rw (z.white, no_dash s at _ h refl, z.quote, z.digit, z.name) refl

  pub digit-run : Begins s at (# INTEGER_LIT) → run_end is_digit s (at + 1) - at ≡ run is_digit (drop at s)
  digit-run h = run_on s at _ h is_digit (first-sorted s at _ h).digit

  -- a byte that says k, a name's or a number's, belongs to a word
  pub word-run : (k : ℕ) → Begins s at k → (eqb k (# IDENT) || eqb k (# INTEGER_LIT)) ≡ true → run_end is_ident_continue s (at + 1) - at ≡ run is_ident_continue (drop at s)
  word-run k h t = let z = first-sorted s at k h in run_on s at k h is_ident_continue ((λ i. z.name i || z.digit i) ∙ t)

-- COMMENTS -------------------------------------------------------------------------------------------------------------

-- a comment's line goes on behind its `--`
pub comment-token : (s : List ℕ) (at : ℕ) → Dashes s at → token (# COMMENT) (run_end not_lf s (at + 2) - at) ≡ token_of (drop at s)
unfolding token_of
comment-token s at d =
    let first : peek (drop at s) 0 ≡ 45 = ap (λ (bs : List ℕ). get_or bs 0 0) (drop-cons s at 0 (omega (arith, d.inside))) ∙ d.first in
    let second : peek (drop at s) 1 ≡ 45 = get_or-drop at s 1 0 ∙ d.second in
    let more : run_end not_lf s at ≡ run_end not_lf s (at + 2) =
    run_more not_lf s at (omega (arith, d.inside)) (ap not_lf d.first) ∙ run_more not_lf s (at + 1) (omega (arith, d.inside)) (ap not_lf d.second)
    ∙ ap (run_end not_lf s) (omega arith) in
    let white : is_whitespace (peek (drop at s) 0) ≡ false = ap is_whitespace first in
    let dashes : (eqb (peek (drop at s) 0) 45 && eqb (peek (drop at s) 1) 45) ≡ true = (λ i. eqb (first i) 45 && eqb (second i) 45) in
    ap (token (# COMMENT)) (ap (λ (e : ℕ). e - at) (sym more) ∙ run-rest not_lf s at) ∙ rw (white, dashes) refl

-- MARKS ----------------------------------------------------------------------------------------------------------------

-- a byte that begins none of the other sorts, but for `-` in a comment
abbrev pub begins-mark : ℕ → Bool
begins-mark b = not ((is_whitespace b || eqb b 34) || (is_digit b || is_ident_start b))

or_four : (a b c d : Bool) → not ((a || b) || (c || d)) ≡ true → (a ≡ false) × (b ≡ false) × (c ≡ false) × (d ≡ false)
or_four false false false false e = (refl, refl, refl, refl)
or_four true b c d e = never e
or_four false true c d e = never e
or_four false false true d e = never e
or_four false false false true e = never e

pub token-is_mark : (bs : List ℕ) → begins-mark (peek bs 0) ≡ true → (eqb (peek bs 0) 45 && eqb (peek bs 1) 45) ≡ false → mark_of bs ≡ token_of bs
unfolding token_of
token-is_mark bs e f =
    let b = peek bs 0 in
    let n = or_four (is_whitespace b) (eqb b 34) (is_digit b) (is_ident_start b) e in
    rw (n.0, f, n.1, n.2, n.3) refl

module _ (s : List ℕ) (at k : ℕ) (h : Begins s at k) (o : Other k) where
  -- all bytes begin a mark but those that say one of the four sorts
  pub other-begins_mark : begins-mark (peek (drop at s) 0) ≡ true
  other-begins_mark =
      let z = first-sorted s at k h in
      (λ i. not ((z.white i || z.quote i) || (z.digit i || z.name i)))
      ∙ ap not (or_neither _ _ (or_neither _ _ o.no_space o.no_string) (or_neither _ _ o.no_number o.no_name))
