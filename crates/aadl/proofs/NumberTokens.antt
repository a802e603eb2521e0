-- The numbers among the tokens of a text (`numbers-told`): a token is a number exactly if a digit stands at its start, and its parts are those
-- of its text, read by itself, by the law of locality, nothing being behind it. So of the words that a call left (`tokens-numbers` of the
-- tokens-only call). Assumes nothing.
use Prim.Native.Nat.{ℕ, zero, suc, ◌≤◌, ◌<◌}
use native.Mathlib.Nat.{not-suc-le-zero}
use native.Mathlib.Omega.{arith}
use mathlib.Core.Path.{◌≡◌, refl, sym, ap, ◌∙◌}
use mathlib.Core.Bool.{Bool, true, false, cond, false≢true}
use mathlib.Core.List.{List, [], ◌∷◌, ◌++◌, append-nil}
use lib.ListN.{length, get_or, take, drop, take-append-drop}
use lib.Seq.{length-take-le}
use lib.Dec.{eqb}
use borrow.Author.Tests.{eqb-true, eq-eqb, ne_eqb}
use Rattle.predictive.proofs.Tests.{never, and_false_r, or_neither}
use Rattle.aadl.specs.declared.Token.{Token}
use Rattle.aadl.specs.Kinds.{ERROR, INTEGER_LIT, REAL_LIT, #◌}
use Rattle.aadl.specs.Bytes.{peek, is_digit, is_ident_continue, run}
use Rattle.aadl.specs.Tokens.{number_of, number_lit, word_of, mark_of, token_of, tokens, kind_in, length_in, from_token, token_text}
use Rattle.aadl.specs.NumberParts.{no_number, number_parts, is_number, NumbersTold}
use Rattle.aadl.specs.Answers.{token_words}
use Rattle.aadl.proofs.Bools.{false_unless, bounds}
use Rattle.aadl.proofs.TokenBounds.{token-cases, token-positive, number-upto, number-kind, word-kind, mark-kind}
use Rattle.aadl.proofs.Separators.{nothing-separates}
use Rattle.aadl.proofs.Locality.{number-again}
use Rattle.aadl.proofs.TokenText.{token-at}
use Rattle.aadl.proofs.NumberLaws.{no_digit_there, digit-there}

-- WHICH TOKENS ARE NUMBERS ---------------------------------------------------------------------------------------------

module _ (bs : List ℕ) where
  -- where a digit stands, the token is the number's
  digit-token : is_digit (peek bs 0) ≡ true → token_of bs ≡ number_lit (number_of bs)
  unfolding token_of
  digit-token e =
      let b = peek bs 0 in
      let below : (c : ℕ) → c < 48 → eqb b c ≡ false = λ c l. ne_eqb b c (λ q. omega (arith, q, l, bounds 48 57 b e)) in
      rw (
        below 32 (omega arith),
        below 9 (omega arith),
        below 13 (omega arith),
        below 10 (omega arith),
        below 45 (omega arith),
        below 34 (omega arith),
        e,
      ) refl

  -- its kind says that it is one
  number-by_kind : is_number (number_of bs).kind (peek bs 0) ≡ true
  number-by_kind = number-kind (λ (k : ℕ). is_number k (peek bs 0) ≡ true) bs (λ z. eq-eqb (peek bs 0) 48 z) refl refl

  -- where none does, the token's kind says that it is none
  other-by_kind : is_digit (peek bs 0) ≡ false → is_number (token_of bs).kind (peek bs 0) ≡ false
  unfolding word_of
  other-by_kind e =
      token-cases (λ (t : Token). is_number t.kind (peek bs 0) ≡ false) bs (λ f. refl) (λ f. refl) (λ f. refl) (λ f. never (sym e ∙ f))
      (λ f. none (word_of bs).kind (λ k. omega (arith, k, (word-kind (take (run is_ident_continue bs) bs)).0)) (λ k. omega (arith, k, (word-kind (take (run is_ident_continue bs) bs)).0)))
      (none (mark_of bs).kind (λ k. omega (arith, k, mark-kind bs)) (λ k. omega (arith, k, mark-kind bs)))
    where
      no_zero : eqb (peek bs 0) 48 ≡ false
      no_zero = false_unless (eqb (peek bs 0) 48) (λ z. false≢true (sym e ∙ ap is_digit (eqb-true (peek bs 0) 48 z)))

      none : (k : ℕ) → (k ≡ # INTEGER_LIT → ⊥) → (k ≡ # REAL_LIT → ⊥) → is_number k (peek bs 0) ≡ false
      none k i r = or_neither _ _ (or_neither _ _ (ne_eqb k (# INTEGER_LIT) i) (ne_eqb k (# REAL_LIT) r)) (and_false_r (eqb k (# ERROR)) (eqb (peek bs 0) 48) no_zero)

-- THEIR PARTS ----------------------------------------------------------------------------------------------------------

first_taken : (n : ℕ) (bs : List ℕ) → 1 ≤ n → peek (take n bs) 0 ≡ peek bs 0
first_taken zero bs h = absurd (not-suc-le-zero h)
first_taken (suc n) [] h = refl
first_taken (suc n) (b ∷ bs) h = refl

-- some bytes that begin with a number: its text, read by itself, is that number
number-alone : (bs : List ℕ) → is_digit (peek bs 0) ≡ true → 1 ≤ length bs → number_of (take (number_of bs).len bs) ≡ number_of bs
number-alone bs e some =
    let n = (number_of bs).len in
    let w = take n bs in
    let r = drop n bs in
    let upto = number-upto bs e in
    let joined : w ++ r ≡ bs = take-append-drop n bs in
    let long : length w ≡ n = length-take-le n bs (omega (arith, upto.to, some)) in
    ap number_of (sym (append-nil w))
    ∙ number-again w r [] (ap is_digit (first_taken n bs upto.from) ∙ e) (ap (λ (l : List ℕ). (number_of l).len) joined ∙ sym long) nothing-separates
    ∙ ap number_of joined

module _ (text rest : List ℕ) (s : length text < 65536) (i : ℕ) (h : i < length (tokens text)) where
  abbrev ts : List ℕ
  ts = token_words text ++ rest

  abbrev bs : List ℕ
  bs = from_token text ts i

  first_byte : peek (token_text text ts i) 0 ≡ peek bs 0
  first_byte = ap (λ (l : List ℕ). peek l 0) (token-at text rest i s h).text-is ∙ first_taken _ bs (token-positive bs)

  abbrev Told : Type 0
  Told = number_parts text ts i ≡ cond (is_number (kind_in (get_or ts i 0)) (peek (token_text text ts i) 0)) (number_of (token_text text ts i)) no_number

  a-number : is_digit (peek bs 0) ≡ true → Told
  a-number e =
      let n = number_of bs in
      let t = token-at text rest i s h in
      let same : token_of bs ≡ number_lit n = digit-token bs e in
      let kind : kind_in (get_or ts i 0) ≡ n.kind = t.kind ∙ ap (λ (x : Token). x.kind) same in
      let len : length_in (get_or ts i 0) ≡ n.len = t.len ∙ ap (λ (x : Token). x.len) same in
      let is : is_number (kind_in (get_or ts i 0)) (peek (token_text text ts i) 0) ≡ true = (λ j. is_number (kind j) (first_byte j)) ∙ number-by_kind bs in
      let alone : number_of (token_text text ts i) ≡ n = ap number_of (t.text-is ∙ ap (λ (x : Token). take x.len bs) same) ∙ number-alone bs e t.some in
      digit-there text ts i e ∙ rw (eq-eqb _ _ (sym kind), eq-eqb _ _ (sym len), is) (sym alone)

  none : is_digit (peek bs 0) ≡ false → Told
  none e =
      let t = token-at text rest i s h in
      let is_none : is_number (kind_in (get_or ts i 0)) (peek (token_text text ts i) 0) ≡ false = (λ j. is_number (t.kind j) (first_byte j)) ∙ other-by_kind bs e in
      no_digit_there text ts i e ∙ rw is_none refl

  told : (d : Bool) → is_digit (peek bs 0) ≡ d → Told
  told true e = a-number e
  told false e = none e

pub numbers-told : (text rest : List ℕ) → length text < 65536 → NumbersTold text (length (tokens text)) (token_words text ++ rest)
numbers-told text rest s i h = told text rest s i h (is_digit (peek (bs text rest s i h) 0)) refl
