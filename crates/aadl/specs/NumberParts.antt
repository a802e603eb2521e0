-- 02's request Five: "The form wants to show base, digits and exponent of a literal." The parts of a number (`Number`) by its token's number;
-- what they are in the words that a call fills; and what a form relies on. Assumes nothing.
use Rattle.std.specs.Prelude.{ℕ, ◌+◌, ◌≤◌, ◌<◌, ◌≡◌, Bool, true, false, ◌&&◌, ◌||◌, cond, List, [], ◌∷◌, get_or, ltb, eqb}
use Rattle.aadl.specs.declared.Number.{Number}
use Rattle.aadl.specs.Kinds.{ERROR, INTEGER_LIT, REAL_LIT, #◌}
use Rattle.aadl.specs.Bytes.{peek, is_digit, is_exponent, is_grouped, is_based}
use Rattle.aadl.specs.Tokens.{unbased, exponent_end, number_of, kind_in, length_in, from_token, token_text}

-- BY TOKEN NUMBER ------------------------------------------------------------------------------------------------------

-- No number: all zero.
abbrev pub no_number : Number
no_number = unbased 0 0 0 false

-- Whether a token word has a number's kind and length.
abbrev pub fits_word : Number → (word : ℕ) → Bool
fits_word n word = eqb n.kind (kind_in word) && eqb n.len (length_in word)

-- The parts of the number that stands where the token with number i starts, if one does and the token has its kind and length; else no
-- number. The words may be any; where there is no such word its length is 0, which no number has.
unfoldable pub number_parts : (text words : List ℕ) → (number : ℕ) → Number
number_parts text words i =
    let bs = from_token text words i in
    let n = number_of bs in
    cond (is_digit (peek bs 0) && fits_word n (get_or words i 0)) n no_number

-- A number as eight numbers: what is so is 1, what is not is 0.
abbrev pub bit : Bool → ℕ
bit b = cond b 1 0

abbrev pub part_numbers : Number → List ℕ
part_numbers n = n.kind ∷ n.len ∷ n.base.begin ∷ n.base.end ∷ n.inner.begin ∷ n.inner.end ∷ bit n.closed ∷ bit n.exponent ∷ []

-- Whether a token is a number, by its kind and its first byte: INTEGER_LIT, REAL_LIT, or a C-style literal, an ERROR that begins with `0`.
abbrev pub is_number : (kind first : ℕ) → Bool
is_number k b = (eqb k (# INTEGER_LIT) || eqb k (# REAL_LIT)) || (eqb k (# ERROR) && eqb b 48)

-- Of words ts whose first n are the token words of a text: each token that is a number has the parts of its text, read by itself; no other
-- token has any.
abbrev pub NumbersTold : (text : List ℕ) → (n : ℕ) → (ts : List ℕ) → Type 0
NumbersTold text n ts =
    (i : ℕ) → i < n →
    let t = token_text text ts i in
    number_parts text ts i ≡ cond (is_number (kind_in (get_or ts i 0)) (peek t 0)) (number_of t) no_number

-- WHAT A FORM RELIES ON ------------------------------------------------------------------------------------------------

-- Every byte from a place up to another is of a class.
abbrev pub AllOf : (ℕ → Bool) → List ℕ → (begin end : ℕ) → Type 0
AllOf p bs i e = (k : ℕ) → i ≤ k → k < e → p (peek bs k) ≡ true

-- Whether there is a base: a `#` stands between its digits and the inner ones.
abbrev pub has_base : Number → Bool
has_base n = ltb n.base.end n.inner.begin

-- digits and `.`
abbrev pub is_dotted : ℕ → Bool
is_dotted b = is_digit b || eqb b 46

-- What inner digits are: with a base hex digits, `.` and `_`; without one digits and `.` of a real, digits and `_` of an integer.
abbrev pub is_inner : Number → ℕ → Bool
is_inner n b = cond (has_base n) (is_based b) (cond (eqb n.kind (# REAL_LIT)) (is_dotted b) (is_grouped b))

-- Where the inner digits and the closing `#` end: where an exponent stands, if there is one.
abbrev pub digits_end : Number → ℕ
digits_end n = cond n.closed (n.inner.end + 1) n.inner.end

-- Of some bytes and the parts that are told of the number at their front. C-style literals, and what is no number, have no digits.
pub record PartsHold (bs : List ℕ) (n : Number) : Type 0 where
  -- base and inner digits in a row, within the number
  pub base_order : n.base.begin ≤ n.base.end
  pub parts_order : n.base.end ≤ n.inner.begin
  pub inner_order : n.inner.begin ≤ n.inner.end
  pub inside : n.inner.end ≤ n.len
  -- the bytes of both
  pub base_digits : AllOf is_digit bs n.base.begin n.base.end
  pub inner_digits : AllOf (is_inner n) bs n.inner.begin n.inner.end
  -- with a base, `#` is the one byte between them
  pub hash : has_base n ≡ true → (peek bs n.base.end ≡ 35) × (n.inner.begin ≡ n.base.end + 1)
  -- closed: with a base, and `#` behind the inner digits
  pub closing : n.closed ≡ (has_base n && eqb (peek bs n.inner.end) 35)
  -- an exponent stands behind all of them, up to the number's end; without one nothing does
  pub with_exponent : n.exponent ≡ true → (is_exponent (peek bs (digits_end n)) ≡ true) × (n.len ≡ exponent_end bs (digits_end n))
  pub no_exponent : n.exponent ≡ false → 0 < n.inner.end → n.len ≡ digits_end n
