-- 01's 'The token word': every case of a token, defined on the bytes from the token's start on. Assumes nothing.
use Rattle.std.specs.Prelude.{ℕ, zero, suc, ◌+◌, ◌-◌, ◌*◌, ◌/◌, ◌%◌, max, ◌<◌, ◌≡◌, Bool, true, false, not, ◌&&◌, ◌||◌, cond, List, [], ◌∷◌, length, get_or, take, drop, leb, ltb, eqb}
use Prim.Native.String.{String}
use Rattle.predictive.specs.Grammar.{has, stand}
use Rattle.aadl.specs.declared.Token.{Token}
use Rattle.aadl.specs.declared.Quoted.{Quoted}
use Rattle.aadl.specs.declared.Span.{Span}
use Rattle.aadl.specs.declared.Number.{Number}
use Rattle.aadl.specs.Kinds.{ERROR, WHITESPACE, COMMENT, INTEGER_LIT, REAL_LIT, STRING_LIT, #◌}
use Rattle.aadl.specs.Words.{bytes, kind_of_word}
use Rattle.aadl.specs.Utf8.{sequence}
use Rattle.aadl.specs.Bytes.{peek, within, is_whitespace, is_digit, is_hex_digit, is_ident_start, is_ident_continue, is_exponent, is_sign, is_grouped, is_based, not_lf, run, run_end}

-- A token of a kind and a length. Nothing but a string can be not closed.
abbrev pub token : ℕ → ℕ → Token
token k n = record { kind = k; len = n; closed = true }

-- STRINGS --------------------------------------------------------------------------------------------------------------

abbrev pub more_quoted : Quoted → Quoted
more_quoted q = record { len = suc q.len; closed = q.closed }

-- "String: `"` to the next `"` not doubled; an unclosed one runs to the end." What of the bytes belongs to a string; at-quote: the byte
-- before them is a quote that closes it unless another one follows.
unfoldable pub quoted : (at-quote : Bool) → List ℕ → Quoted
quoted q [] = record { len = 0; closed = q }
quoted q (b ∷ bs) =
    let more = more_quoted (quoted (not q && eqb b 34) bs) in
    cond (q && not (eqb b 34)) (record { len = 0; closed = true }) more

-- The string whose opening quote is the first byte.
unfoldable pub string_of : List ℕ → Quoted
string_of bs = more_quoted (quoted false (drop 1 bs))

-- 02's request Four: "Reading a string must now tell whether it was closed", and its token hands that up.
abbrev pub string_lit : Quoted → Token
string_lit q = record { kind = # STRING_LIT; len = q.len; closed = q.closed }

-- NUMBERS --------------------------------------------------------------------------------------------------------------

-- 02's request Five: "besides kind and length it gives where the base's digits and the inner digits begin and end (the first place after
-- them), whether the closing `#` was there, and whether an exponent was. Places count from the literal's start."
abbrev pub span : (begin end : ℕ) → Span
span i e = record { begin = i; end = e }

abbrev pub number : (kind len : ℕ) → (base inner : Span) → (closed exponent : Bool) → Number
number k n b i c x = record { kind = k; len = n; base = b; inner = i; closed = c; exponent = x }

-- "Without `#` the base is empty, at 0, and the inner part is all before an exponent": up to e.
abbrev pub unbased : (kind len e : ℕ) → (exponent : Bool) → Number
unbased k n e x = number k n (span 0 0) (span 0 e) false x

-- "An exponent is e or E, one sign if there, perhaps no digits": where the one that may stand at i ends.
unfoldable pub exponent_end : List ℕ → ℕ → ℕ
exponent_end bs i =
    cond (is_exponent (peek bs i))
    (cond (is_sign (peek bs (i + 1))) (run_end is_digit bs (i + 2)) (run_end is_digit bs (i + 1)))
    i

-- "then x, o or b in either case, then a digit of radix 16, 8 or 2"; m is the letter, b the digit
abbrev pub radix_digit : (m b : ℕ) → Bool
radix_digit m b =
    (((eqb m 120 || eqb m 88) && is_hex_digit b) || ((eqb m 111 || eqb m 79) && within 48 55 b)) || ((eqb m 98 || eqb m 66) && within 48 49 b)

-- "D is just `0`", with such a letter and digit behind it; d is D's length
abbrev pub is_c_style : List ℕ → ℕ → Bool
is_c_style bs d = (eqb d 1 && eqb (peek bs 0) 48) && radix_digit (peek bs d) (peek bs (d + 1))

-- "for a C-style literal both are empty, at 0"
abbrev pub c_style : (len : ℕ) → Number
c_style n = unbased (# ERROR) n 0 false

-- "hex digits, `.` and `_`, then `#` if there, then an exponent if there; REAL_LIT if it had `.` or exponent, else INTEGER_LIT":
-- from place i to e the inner digits, f the place after a closing `#`
abbrev pub based_to : List ℕ → ℕ → ℕ → ℕ → Number
based_to bs i e f =
    let kind = cond (has (take (e - i) (drop i bs)) 46 || is_exponent (peek bs f)) (# REAL_LIT) (# INTEGER_LIT) in
    number kind (exponent_end bs f) (span 0 (i - 1)) (span i e) (eqb (peek bs e) 35) (is_exponent (peek bs f))

unfoldable pub based : List ℕ → ℕ → Number
based bs i =
    let e = run_end is_based bs i in
    based_to bs i e (cond (eqb (peek bs e) 35) (e + 1) e)

-- a real without a base whose digits end at e, where an exponent may stand
abbrev pub real : List ℕ → ℕ → Number
real bs e = unbased (# REAL_LIT) (exponent_end bs e) e (is_exponent (peek bs e))

-- an integer without a base, all digits
abbrev pub integer : (len : ℕ) → Number
integer n = unbased (# INTEGER_LIT) n n false

-- "decimal digits D, then the first case that fits"; d is D's length. C-style: "the whole letter, digit and `_` run is one ERROR".
unfoldable pub number_from : List ℕ → ℕ → Number
number_from bs d =
    cond (is_c_style bs d) (c_style (run is_ident_continue bs))
    (cond (eqb (peek bs d) 35) (based bs (d + 1))
    (cond (eqb (peek bs d) 46 && not (eqb (peek bs (d + 1)) 46)) (real bs (run_end is_digit bs (d + 1)))
    (cond (is_exponent (peek bs d)) (real bs d)
    (integer (run_end is_grouped bs d)))))

unfoldable pub number_of : List ℕ → Number
number_of bs = number_from bs (run is_digit bs)

-- what its token keeps of a number
abbrev pub number_lit : Number → Token
number_lit n = token n.kind n.len

-- WORDS, PUNCTUATION, ANY OTHER CHARACTER ------------------------------------------------------------------------------

-- "Identifier or keyword: a letter (ASCII) or `_`, then letters, digits and `_`."
unfoldable pub word_of : List ℕ → Token
word_of bs = token (kind_of_word (take (run is_ident_continue bs) bs)) (run is_ident_continue bs)

-- The Rust's list of punctuation, in the order of the kinds 5 to 29.
unfoldable pub marks : List String
marks =
    ";" ∷ ":" ∷ "," ∷ "." ∷ ".." ∷ "(" ∷ ")" ∷ "{" ∷ "}" ∷ "[" ∷ "]" ∷ "->" ∷ "<->" ∷ "=>" ∷ "+=>" ∷ "+" ∷ "-" ∷ "*" ∷ "/" ∷
    "::" ∷ "{**" ∷ "**}" ∷ "#" ∷ "-[" ∷ "]->" ∷ []

-- The longest mark that stands, of those from kind k on; kind 0 and length 0 for none.
abbrev pub longest_mark : ℕ → List String → List ℕ → Token
longest_mark k [] bs = token 0 0
longest_mark k (m ∷ ms) bs =
    let t = longest_mark (suc k) ms bs in
    cond (stand (bytes m) bs && ltb t.len (length (bytes m))) (token k (length (bytes m))) t

-- "Punctuation takes the longest of the Rust's list. Every other character, NUL included, is one ERROR token."
unfoldable pub mark_of : List ℕ → Token
mark_of bs =
    let t = longest_mark 5 marks bs in
    cond (eqb t.len 0) (token (# ERROR) (max 1 (sequence bs))) t

-- TOKENS ---------------------------------------------------------------------------------------------------------------

-- The token that some bytes, at least one, begin with.
unfoldable pub token_of : List ℕ → Token
token_of bs =
    cond (is_whitespace (peek bs 0)) (token (# WHITESPACE) (run is_whitespace bs))
    (cond (eqb (peek bs 0) 45 && eqb (peek bs 1) 45) (token (# COMMENT) (run not_lf bs))
    (cond (eqb (peek bs 0) 34) (string_lit (string_of bs))
    (cond (is_digit (peek bs 0)) (number_lit (number_of bs))
    (cond (is_ident_start (peek bs 0)) (word_of bs)
    (mark_of bs)))))

-- The tokens of the bytes that come after k bytes to pass over.
unfoldable pub tokens_after : ℕ → List ℕ → List Token
tokens_after k [] = []
tokens_after (suc k) (b ∷ bs) = tokens_after k bs
tokens_after zero (b ∷ bs) =
    let t = token_of (b ∷ bs) in
    t ∷ tokens_after (t.len - 1) bs

unfoldable pub tokens : List ℕ → List Token
tokens bs = tokens_after 0 bs

abbrev pub lengths : List Token → ℕ
lengths [] = 0
lengths (t ∷ ts) = t.len + lengths ts

-- Where the first of some tokens that is not closed starts, or where they end if there is none.
abbrev pub unclosed : List Token → ℕ
unclosed [] = 0
unclosed (t ∷ ts) =
    let later = t.len + unclosed ts in
    cond t.closed later 0

-- "Kind × 65,536 + length in bytes."
abbrev pub token_word : Token → ℕ
token_word t = t.kind * 65536 + t.len

-- TOKEN TEXT -----------------------------------------------------------------------------------------------------------

-- The length in a token word, and the sum of the lengths in words.
abbrev pub length_in : ℕ → ℕ
length_in w = w % 65536

abbrev pub kind_in : ℕ → ℕ
kind_in w = w / 65536 % 256

abbrev pub total : List ℕ → ℕ
total [] = 0
total (w ∷ ws) = length_in w + total ws

-- The bytes from the start of the token with number i on.
abbrev pub from_token : (text words : List ℕ) → (number : ℕ) → List ℕ
from_token text words i = drop (total (take i words)) text

-- "By token number, the token's text is handed back as a part of the lent text; empty if there is no such word or the lengths up to
-- it pass the end." The words may be any.
unfoldable pub token_text : (text words : List ℕ) → (number : ℕ) → List ℕ
token_text text words i =
    let begin = total (take i words) in
    let len = length_in (get_or words i 0) in
    cond (ltb i (length words) && leb (begin + len) (length text)) (take len (from_token text words i)) []

-- 02's request Four, of words ts whose first n are the token words of a text: the text of each token that is a string, read by itself, is one
-- string that is closed, and nothing after it.
abbrev pub StringsClosed : (text : List ℕ) (n : ℕ) (ts : List ℕ) → Type 0
StringsClosed text n ts = (i : ℕ) → i < n → kind_in (get_or ts i 0) ≡ # STRING_LIT → token_of (token_text text ts i) ≡ token (# STRING_LIT) (length (token_text text ts i))
