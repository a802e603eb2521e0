-- What a parser reads: a text and its token words, and what remains of them where the parser stands. Assumes nothing.
use Rattle.std.specs.Prelude.{ℕ, suc, ◌+◌, min, Bool, false, cond, List, [], ◌∷◌, map, length, drop, eqb}
use Rattle.aadl.specs.declared.Token.{Token}
use Rattle.aadl.specs.Bytes.{peek}
use Rattle.aadl.specs.Tokens.{token, kind_in, length_in}
use Rattle.aadl.specs.Symbols.{is_trivia, symbol_of, Placed, placed}
use Rattle.parser.specs.declared.Counters.{Counters}
use Rattle.parser.specs.Counters.{Place}

pub record Input : Type 0 where
  pub text : List ℕ
  pub words : List ℕ

abbrev pub input : (text words : List ℕ) → Input
input text words = record { text = text; words = words }

-- The token that a word stands for; the words may be any.
abbrev pub token_in : ℕ → Token
token_in w = token (kind_in w) (length_in w)

-- The symbols of the words that start at a byte of the text, without trivia.
unfoldable pub without_trivia : (text : List ℕ) → (byte : ℕ) → (words : List ℕ) → List ℕ
without_trivia text b ws = map (λ (p : Placed). p.symbol) (placed text b (map token_in ws))

-- The same where a token stands: the first one is there whatever it is.
unfoldable pub standing : (text : List ℕ) → (byte : ℕ) → (words : List ℕ) → List ℕ
unfolding without_trivia
standing text b [] = []
standing text b (w ∷ ws) = symbol_of (kind_in w) (peek text b) ∷ without_trivia text (b + length_in w) ws

-- What remains where a parser stands.
unfoldable pub rest : Input → Counters → List ℕ
unfolding standing
rest inp p = standing inp.text p.byte (drop p.at inp.words)

-- Where the token after the word w starts that starts at a byte: no further than the text.
abbrev pub past : (text : List ℕ) → (byte w : ℕ) → ℕ
past text b w = min (b + length_in w) (length text)

-- The first place, of the words from a place on, whose token is no trivia.
unfoldable pub skip : (text : List ℕ) → (at byte : ℕ) → (words : List ℕ) → Place
skip text i b [] = record { at = i; byte = b }
skip text i b (w ∷ ws) = cond (is_trivia (kind_in w)) (skip text (suc i) (past text b w) ws) (record { at = i; byte = b })

-- Trivia stand first.
abbrev pub trivia_ahead : (words : List ℕ) → Bool
trivia_ahead [] = false
trivia_ahead (w ∷ ws) = is_trivia (kind_in w)

-- The place after the first of the words from a place on, and after the trivia behind it.
unfoldable pub after_one : (text : List ℕ) → (at byte : ℕ) → (words : List ℕ) → Place
unfolding skip
after_one text i b [] = record { at = i; byte = b }
after_one text i b (w ∷ ws) = skip text (suc i) (past text b w) ws

-- The place of the token after the one where a parser stands.
abbrev pub next : Input → Counters → Place
next inp p = after_one inp.text p.at p.byte (drop p.at inp.words)

-- The first of some symbols; the end's number, which is no symbol, where there is none.
abbrev pub END : ℕ
END = 257

abbrev pub ahead : List ℕ → ℕ
ahead [] = END
ahead (x ∷ xs) = x

-- The symbol n further on from where a parser stands; the end's once it stopped.
unfoldable pub nth : Input → Counters → ℕ → ℕ
unfolding rest
nth inp p n = cond (eqb p.stop 0) (ahead (drop n (rest inp p))) END

-- where the first token stands that is no trivia
unfoldable pub new : Input → (left : ℕ) → Counters
unfolding skip
new inp l =
    let s = skip inp.text 0 0 inp.words in
    record { at = s.at; byte = s.byte; taken = 0; used = 0; left = l; stop = 0 }
