-- Where a parser stands among a text's non-trivia tokens. Assumes nothing.
use Rattle.std.specs.Prelude.{ℕ, ◌+◌, ◌≡◌, false, List, [], ◌∷◌, map, length, drop}
use Rattle.aadl.specs.Tokens.{kind_in, tokens, total}
use Rattle.aadl.specs.Symbols.{is_trivia, Placed, placed, raw_numbers}
use Rattle.aadl.specs.Answers.{token_words}
use Rattle.parser.specs.declared.Counters.{Counters}
use Rattle.parser.specs.Input.{token_in}

-- the non-trivia tokens of words, the first of which starts at a byte
abbrev pub placed_words : (text : List ℕ) → (byte : ℕ) → (words : List ℕ) → List Placed
placed_words text b ws = placed text b (map token_in ws)

-- the raw numbers of the non-trivia tokens of words, the first of which has a number
abbrev pub numbers_in : (number : ℕ) → (words : List ℕ) → List ℕ
numbers_in i ws = raw_numbers i (map token_in ws)

-- the first word, if there is one, is no trivia's
abbrev pub Solid : List ℕ → Type 0
Solid [] = Unit {0}
Solid (w ∷ ws) = is_trivia (kind_in w) ≡ false

-- Word i, whose token starts at byte b, is the first of the words whose non-trivia tokens are ps, with the raw numbers ns; the words from
-- there on reach to the text's end.
pub record Stood (text ws : List ℕ) (ps : List Placed) (ns : List ℕ) (i b : ℕ) : Type 0 where
  pub tiles : b + total (drop i ws) ≡ length text
  pub shows : placed_words text b (drop i ws) ≡ ps
  pub solid : Solid (drop i ws)
  pub counts : i + length (drop i ws) ≡ length ws
  pub numbers : numbers_in i (drop i ws) ≡ ns

-- The parser p over a text and its token words has k non-trivia tokens behind it.
pub record Behind (text : List ℕ) (k : ℕ) (p : Counters) : Type 0 where
  pub where_it_is : Stood text (token_words text) (drop k (placed text 0 (tokens text))) (drop k (raw_numbers 0 (tokens text))) p.at p.byte

-- The parser p goes on, with k non-trivia tokens of the text behind it.
pub record Passed (text : List ℕ) (k : ℕ) (p : Counters) : Type 0 where
  pub goes : p.stop ≡ 0
  pub behind : Behind text k p
