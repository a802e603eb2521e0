-- The law of locality: where a separator follows, a token depends on its own bytes alone. (a) `token-again`, and `number-again` for all
-- parts of a number: a token other than trivia is scanned as itself again before a separator, whatever followed it before. (b) `word-again`:
-- so is a word in lower case. (c) `tokens-glued`, `tokens-glued_all`: the tokens of texts that end in a SEMICOLON token, one text after
-- another, are those of each. The bytes need not be well-formed. `Needed` breaks each law without each of its premises. Assumes nothing.
use Prim.Native.Nat.{ℕ, ◌+◌, ◌≤◌, zero-le, suc-le-suc}
use Prim.Native.String.{String}
use native.Mathlib.Omega.{arith}
use mathlib.Core.Path.{◌≡◌, refl, sym, ap, subst, ◌∙◌}
use mathlib.Core.Bool.{Bool, true, false, ◌&&◌}
use mathlib.Core.List.{List, [], ◌∷◌, ◌++◌, map}
use lib.ListN.{length}
use lib.Dec.{eqb, ltb}
use borrow.Author.Tests.{ne_eqb}
use Rattle.predictive.proofs.Tests.{never, or_neither}
use Rattle.aadl.specs.declared.Token.{Token}
use Rattle.aadl.specs.Kinds.{WHITESPACE, COMMENT, SEMICOLON, DOT, DOT_DOT, INTEGER_LIT, REAL_LIT, IDENT, #◌}
use Rattle.aadl.specs.Words.{bytes, lower}
use Rattle.aadl.specs.Bytes.{peek, is_digit}
use Rattle.aadl.specs.Tokens.{token, number_of, token_of, tokens_after, tokens}
use Rattle.aadl.specs.Symbols.{is_trivia}
use Rattle.aadl.proofs.Lists.{every, Each}
use Rattle.aadl.proofs.TokenBounds.{token-positive}
use Rattle.aadl.proofs.Unclosed.{closed-unless_string}
use Rattle.aadl.proofs.SameNumbers.{number_same}
use Rattle.aadl.proofs.SameTokens.{token_of-same}
use Rattle.aadl.proofs.Separators.{Separates, separates_meek}
use Rattle.aadl.proofs.LowerCase.{lower-case_same}
use Rattle.aadl.proofs.Glued.{last-kind, split, glued_split}
use Rattle.aadl.proofs.Computing.{definitions}

-- (a) A TOKEN BEFORE A SEPARATOR ---------------------------------------------------------------------------------------

-- w is the first token of w ++ r. It is no trivia; it is closed, which is asked only where nothing follows it, since any other is.
-- s separates: it is empty or begins with a space, an LF or `;` (`nothing-separates`, `space_separates`, `line-separates`,
-- `semicolon_separates`), or with any other byte that goes on with no token.
pub token-again : (w r s : List ℕ) → (token_of (w ++ r)).len ≡ length w → is_trivia (token_of (w ++ r)).kind ≡ false →
    (r ≡ [] → (token_of (w ++ r)).closed ≡ true) → Separates s → token_of (w ++ s) ≡ token_of (w ++ r)
token-again [] r s whole solid closed e = absurd (omega (arith, token-positive r))
token-again (a ∷ w) r s whole solid closed e =
    token_of-same a w r s (separates_meek r s e)
    record { ends = omega arith; white = λ f. never (sym solid ∙ ap is_trivia f); comment = λ f. never (sym solid ∙ ap is_trivia f); closed = closed; parted = λ l. omega arith }

-- The same of a number: its kind and length, its base, its inner digits, the closing `#` and the exponent.
pub number-again : (w r s : List ℕ) → is_digit (peek w 0) ≡ true → (number_of (w ++ r)).len ≡ length w → Separates s →
    number_of (w ++ s) ≡ number_of (w ++ r)
number-again [] r s digit whole e = never digit
number-again (a ∷ w) r s digit whole e = number_same a w r s (separates_meek r s e) (omega arith) (λ l. omega arith)

-- (b) A WORD IN LOWER CASE ---------------------------------------------------------------------------------------------

-- w is the first token of w ++ r, and a keyword or an identifier.
pub word-again : (w r s : List ℕ) → (token_of (w ++ r)).len ≡ length w → # IDENT ≤ (token_of (w ++ r)).kind → Separates s →
    token_of (map lower w ++ s) ≡ token_of (w ++ r)
word-again w r s whole word e =
    let k = (token_of (w ++ r)).kind in
    let solid = or_neither (eqb k (# WHITESPACE)) (eqb k (# COMMENT)) (ne_eqb k (# WHITESPACE) (λ q. omega arith)) (ne_eqb k (# COMMENT) (λ q. omega arith)) in
    let again = token-again w r s whole solid (λ q. closed-unless_string (w ++ r) (λ k. omega (arith, k, word))) e in
    lower-case_same w s (ap (λ (t : Token). t.len) again ∙ whole) (subst (λ (t : Token). # IDENT ≤ t.kind) (sym again) word) ∙ again

-- (c) TEXTS ONE AFTER ANOTHER ------------------------------------------------------------------------------------------

-- A text that is empty, or whose last token is a SEMICOLON.
abbrev pub Ended : List ℕ → Type 0
Ended a = last-kind (# SEMICOLON) (tokens a) ≡ # SEMICOLON

pub tokens-glued : (a b : List ℕ) → Ended a → tokens (a ++ b) ≡ tokens a ++ tokens b
unfolding tokens tokens_after
tokens-glued [] b e = refl
tokens-glued (c ∷ a) b e =
    let s = split (# SEMICOLON) 0 (c ∷ a) (suc-le-suc zero-le) e in
    subst (λ (l : List ℕ). tokens (l ++ b) ≡ tokens l ++ tokens b) s.whole (glued_split s.before b s.bound)

-- Some lists one after another, before one more.
abbrev pub joined {ℓ} : {A : Type ℓ} → List (List A) → List A → List A
joined [] b = b
joined (a ∷ ls) b = a ++ joined ls b

pub tokens-glued_all : (ls : List (List ℕ)) (b : List ℕ) → Each Ended ls → tokens (joined ls b) ≡ joined (map tokens ls) (tokens b)
tokens-glued_all [] b h = refl
tokens-glued_all (a ∷ ls) b h = tokens-glued a (joined ls b) h.0 ∙ ap (λ (ts : List Token). tokens a ++ ts) (tokens-glued_all ls b h.1)

-- WHAT BREAKS THE LAWS -------------------------------------------------------------------------------------------------

-- The first text is one token, and before the second it is a part of a longer one.
abbrev grows : String × String → Bool
grows (w, s) =
    let n = length (bytes w) in
    eqb (token_of (bytes w)).len n && ltb n (token_of (bytes w ++ bytes s)).len

-- The two texts have more tokens one by one than one after the other.
abbrev merges : String × String → Bool
merges (a, b) = ltb (length (tokens (bytes a ++ bytes b))) (length (tokens (bytes a)) + length (tokens (bytes b)))

pub record Needed : Type 0 where
  -- (a) trivia, and a string that is not closed, go on with a space
  pub solid : every grows ((" ", " ") ∷ ("--", " ") ∷ ("\"", " ") ∷ []) ≡ true
  -- all of w: digits look two bytes on, so `1.` is no token before `.2`, but is one before ` .2`
  pub whole : (token_of (bytes "1..2") ≡ token (# INTEGER_LIT) 1) × (token_of (bytes "1. .2") ≡ token (# REAL_LIT) 2)
  -- (a) and (b) bytes that do not separate: of words, of numbers, a quote, of marks, of a character
  pub words : every grows (("a", "b") ∷ ("a", "1") ∷ ("a", "_") ∷ []) ≡ true
  pub numbers : every grows (("1", "#") ∷ ("1", ".") ∷ ("1e", "+") ∷ ("1e", "-") ∷ []) ≡ true
  pub marks : every grows (("\"\"", "\"") ∷ ("+", "=>") ∷ ("-", ">") ∷ ("-", "[") ∷ (":", ":") ∷ ("{", "**") ∷ []) ≡ true
  pub characters : ((token_of (0xC3 ∷ [])).len ≡ 1) × ((token_of (0xC3 ∷ 0xA9 ∷ [])).len ≡ 2)
  -- (c) another last token; a `;` that is in a comment or a string
  pub ended : every merges (("a", "b") ∷ ("]", "->") ∷ ("--;", "a") ∷ ("\";", "a") ∷ []) ≡ true
  pub dots : tokens (bytes "1..") ≡ token (# INTEGER_LIT) 1 ∷ token (# DOT_DOT) 2 ∷ []
  pub dots-apart : tokens (bytes "1.") ++ tokens (bytes ".") ≡ token (# REAL_LIT) 2 ∷ token (# DOT) 1 ∷ []

pub needed : Needed
unfolding definitions
needed =
    record { solid = refl; whole = (refl, refl); words = refl; numbers = refl; marks = refl; characters = (refl, refl); ended = refl; dots = refl; dots-apart = refl }
