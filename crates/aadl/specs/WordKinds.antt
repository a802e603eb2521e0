-- 02's request Three: "each of the eighty-one words, in any mix of ASCII case, gives its own kind and every other word IDENT". Said of the
-- kind of a word, and of all token words that a call fills. Assumes nothing.
use Rattle.std.specs.Prelude.{ℕ, ◌+◌, ◌<◌, ◌≡◌, ◌⊎◌, ◌↔◌, Bool, true, false, ◌&&◌, List, [], ◌∷◌, ◌++◌, length, get_or, eqb}
use Rattle.aadl.specs.Kinds.{IDENT, #◌}
use Rattle.aadl.specs.Words.{row}
use Rattle.aadl.specs.Bytes.{peek, is_ident_start, is_ident_continue, run}
use Rattle.aadl.specs.Tokens.{kind_in, from_token, token_text}

-- "in any mix of ASCII case": each letter of a word as it stands, or its capital. The words' letters are `a` to `z`, whose capitals are 32
-- less.
abbrev pub Mixed : (word : List ℕ) → List ℕ → Type 0
Mixed [] [] = Unit {0}
Mixed [] (b ∷ bs) = ⊥
Mixed (v ∷ vs) [] = ⊥
Mixed (v ∷ vs) (b ∷ bs) = ((b ≡ v) ⊎ (b + 32 ≡ v)) × Mixed vs bs

-- k is the kind of the word w:
pub record OwnKind (w : List ℕ) (k : ℕ) : Type 0 where
  -- each of the eighty-one words has its own kind, and no other word has that kind
  pub own : (i : ℕ) → i < 81 → Mixed (row i).word w ↔ (k ≡ (row i).kind)
  -- a word that is none of them is an identifier
  pub other : ((i : ℕ) → i < 81 → Mixed (row i).word w → ⊥) → k ≡ # IDENT

-- "a letter (ASCII) or `_`, then letters, digits and `_`", and no other byte
abbrev pub is_word : List ℕ → Bool
is_word w = is_ident_start (peek w 0) && eqb (run is_ident_continue w) (length w)

-- Of words ts whose first n are the token words of a text. Where tokens start is the tokens' definition's to say: none does within a comment,
-- a string or a number (`1end` is `1e` and `nd`).
pub record WordsTold (text : List ℕ) (n : ℕ) (ts : List ℕ) : Type 0 where
  -- where a token starts and a word stands, with no letter, digit or `_` behind it, the token is that word
  pub whole : (i : ℕ) → i < n → (w v : List ℕ) → is_word w ≡ true → is_ident_continue (peek v 0) ≡ false →
      from_token text ts i ≡ w ++ v → token_text text ts i ≡ w
  -- a token that is a word has that word's kind
  pub kind : (i : ℕ) → i < n → is_word (token_text text ts i) ≡ true → OwnKind (token_text text ts i) (kind_in (get_or ts i 0))
  -- any other token has a kind before IDENT
  pub other : (i : ℕ) → i < n → is_word (token_text text ts i) ≡ false → kind_in (get_or ts i 0) < # IDENT
