-- What the parser sees of a text: the kinds of its non-trivia tokens, with C-style literals marked, where they start, and their numbers
-- among all tokens. Assumes nothing.
use Rattle.std.specs.Prelude.{ℕ, suc, ◌+◌, Bool, ◌&&◌, ◌||◌, cond, List, [], ◌∷◌, map, length, get_or, eqb}
use Rattle.aadl.specs.declared.Token.{Token}
use Rattle.aadl.specs.Kinds.{ERROR, WHITESPACE, COMMENT, #◌}
use Rattle.aadl.specs.Bytes.{peek}
use Rattle.aadl.specs.Tokens.{tokens}

-- "Trivia are WHITESPACE and COMMENT."
abbrev pub is_trivia : ℕ → Bool
is_trivia k = eqb k (# WHITESPACE) || eqb k (# COMMENT)

-- A C-style literal is the ERROR token whose first byte is `0`. It has a symbol of its own, above every kind;
-- every other token's symbol is its kind.
abbrev pub C_STYLE : ℕ
C_STYLE = 258

abbrev pub symbol_of : (kind byte : ℕ) → ℕ
symbol_of k b = cond (eqb k (# ERROR) && eqb b 48) C_STYLE k

-- The kind of the token behind a symbol.
unfoldable pub shown : ℕ → ℕ
shown x = cond (eqb x C_STYLE) (# ERROR) x

pub record Placed : Type 0 where
  pub symbol : ℕ
  pub place : ℕ

-- The non-trivia tokens of a text, of those that start at a place.
unfoldable pub placed : (text : List ℕ) → (place : ℕ) → List Token → List Placed
placed text i [] = []
placed text i (t ∷ ts) =
    let rest = placed text (i + t.len) ts in
    cond (is_trivia t.kind) rest (record { symbol = symbol_of t.kind (peek text i); place = i } ∷ rest)

unfoldable pub symbols : List ℕ → List ℕ
symbols text = map (λ (p : Placed). p.symbol) (placed text 0 (tokens text))

-- The start of the non-trivia token with a number, from 0; the text's length after the last.
unfoldable pub start_of : List ℕ → ℕ → ℕ
start_of text n = get_or (map (λ (p : Placed). p.place) (placed text 0 (tokens text))) n (length text)

-- 02's request Seven: "the raw number of the next untaken non-trivia token", its number among all tokens, trivia too. The raw numbers of the
-- non-trivia tokens of those from number i on.
unfoldable pub raw_numbers : (i : ℕ) → List Token → List ℕ
raw_numbers i [] = []
raw_numbers i (t ∷ ts) =
    let rest = raw_numbers (suc i) ts in
    cond (is_trivia t.kind) rest (i ∷ rest)

-- The raw number of the non-trivia token with a number, from 0; "the token count at the end".
unfoldable pub raw_number : List ℕ → ℕ → ℕ
raw_number text n = get_or (raw_numbers 0 (tokens text)) n (length (tokens text))

-- The kinds of the non-trivia tokens.
abbrev pub without_trivia : List Token → List ℕ
without_trivia [] = []
without_trivia (t ∷ ts) =
    let rest = without_trivia ts in
    cond (is_trivia t.kind) rest (t.kind ∷ rest)

unfoldable pub kinds : List ℕ → List ℕ
kinds text = without_trivia (tokens text)
