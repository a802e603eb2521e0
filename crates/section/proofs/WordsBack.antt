-- A text's token words stand for its tokens: a kind is below 128 and no token is longer than the text, so that both come back from
-- the word (`words_back`). A word does not tell whether its token is closed, and what is made of tokens here does not ask (`told`): where they stand,
-- their raw numbers, their kinds, and their lengths, which sum to the text's length. Assumes nothing.
use Prim.Native.Nat.{ℕ, suc, ◌+◌, ◌%◌, ◌<◌}
use native.Mathlib.Omega.{arith}
use mathlib.Core.Path.{◌≡◌, refl, ap, ap₂, ◌∙◌}
use mathlib.Core.Bool.{cond}
use mathlib.Core.List.{List, [], ◌∷◌, map}
use lib.ListN.{length}
use Rattle.aadl.specs.declared.Token.{Token}
use Rattle.aadl.specs.Bytes.{peek}
use Rattle.aadl.specs.Tokens.{tokens, lengths, token, token_word, total}
use Rattle.aadl.specs.Symbols.{is_trivia, symbol_of, Placed, placed, raw_numbers, without_trivia, kinds}
use Rattle.aadl.specs.Answers.{token_words}
use Rattle.aadl.proofs.Lists.{Each}
use Rattle.aadl.proofs.TokensCover.{tokens-cover_text, kinds-small}
use Rattle.aadl.proofs.TokenText.{kind-back, length_back}
use Rattle.parser.specs.Input.{token_in}

-- what a word tells of a token
abbrev told : Token → Token
told t = token t.kind t.len

words_back : (ts : List Token) → Each (λ (t : Token). t.kind < 128) ts → lengths ts < 65536 → map token_in (map token_word ts) ≡ map told ts
words_back [] h l = refl
words_back (t ∷ ts) h l =
    let n : t.len < 65536 = omega (arith, l) in
    ap₂ (λ (u : Token) (us : List Token). u ∷ us) (ap₂ token (kind-back t h.0 n) (length_back t h.0 n)) (words_back ts h.1 (omega (arith, l)))

-- WHAT IS MADE OF THEM -------------------------------------------------------------------------------------------------

placed-told : (text : List ℕ) (i : ℕ) (ts : List Token) → placed text i (map told ts) ≡ placed text i ts
unfolding placed
placed-told text i [] = refl
placed-told text i (t ∷ ts) =
    ap (λ (ps : List Placed). cond (is_trivia t.kind) ps (record { symbol = symbol_of t.kind (peek text i); place = i } ∷ ps))
    (placed-told text (i + t.len) ts)

numbers-told : (i : ℕ) (ts : List Token) → raw_numbers i (map told ts) ≡ raw_numbers i ts
unfolding raw_numbers
numbers-told i [] = refl
numbers-told i (t ∷ ts) = ap (λ (ns : List ℕ). cond (is_trivia t.kind) ns (i ∷ ns)) (numbers-told (suc i) ts)

kinds-told : (ts : List Token) → without_trivia (map told ts) ≡ without_trivia ts
kinds-told [] = refl
kinds-told (t ∷ ts) = ap (λ (ks : List ℕ). cond (is_trivia t.kind) ks (t.kind ∷ ks)) (kinds-told ts)

lengths-told : (ts : List Token) → lengths (map told ts) ≡ lengths ts
lengths-told [] = refl
lengths-told (t ∷ ts) = ap (λ (n : ℕ). t.len + n) (lengths-told ts)

-- the sum of the lengths in words is that of the tokens that they stand for
total-in : (ws : List ℕ) → total ws ≡ lengths (map token_in ws)
total-in [] = refl
total-in (w ∷ ws) = ap (λ (n : ℕ). w % 65536 + n) (total-in ws)

module _ (text : List ℕ) (h : length text < 65536) where
  back : map token_in (token_words text) ≡ map told (tokens text)
  back = words_back (tokens text) (kinds-small text) (omega (arith, h, tokens-cover_text text))

  pub placed-back : placed text 0 (map token_in (token_words text)) ≡ placed text 0 (tokens text)
  placed-back = ap (placed text 0) back ∙ placed-told text 0 (tokens text)

  pub numbers-back : raw_numbers 0 (map token_in (token_words text)) ≡ raw_numbers 0 (tokens text)
  numbers-back = ap (raw_numbers 0) back ∙ numbers-told 0 (tokens text)

  pub kinds-back : without_trivia (map token_in (token_words text)) ≡ kinds text
  unfolding kinds
  kinds-back = ap without_trivia back ∙ kinds-told (tokens text)

  pub total-token_words : total (token_words text) ≡ length text
  total-token_words = total-in (token_words text) ∙ ap lengths back ∙ lengths-told (tokens text) ∙ tokens-cover_text text
