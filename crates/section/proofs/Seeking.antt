-- A parser that is put at a word of a text. Where that is the word with the raw number of a token, and its byte what the words before come to,
-- it stands where one stands that passed the tokens before (Places). By induction over those tokens. Assumes nothing.
use Prim.Native.Nat.{ℕ, zero, suc, ◌+◌, ◌<◌}
use native.Mathlib.Omega.{arith}
use mathlib.Core.Path.{◌≡◌, refl, sym, ap, subst, ◌∙◌}
use mathlib.Core.List.{List, [], ◌∷◌}
use lib.ListN.{length, take, drop}
use Rattle.aadl.specs.Tokens.{tokens, total}
use Rattle.aadl.specs.Symbols.{placed, raw_numbers, raw_number}
use Rattle.aadl.specs.Answers.{token_words}
use Rattle.parser.specs.declared.Counters.{Counters}
use Rattle.parser.specs.Input.{Input, input, next, new}
use Rattle.section.specs.Standing.{Stood, Behind}
use Rattle.section.proofs.WordsBack.{total-token_words}
use Rattle.section.proofs.Places.{behind-at, new-behind, next-behind}

pub total-around : (ws : List ℕ) (i : ℕ) → total (take i ws) + total (drop i ws) ≡ total ws
total-around ws zero = omega arith
total-around [] (suc i) = refl
total-around (w ∷ ws) (suc i) = omega (arith, total-around ws i)

module _ (text : List ℕ) (short : length text < 65536) where
  -- The words before a parser come to its byte.
  pub behind-total : (k : ℕ) (p : Counters) → Behind text k p → p.byte ≡ total (take p.at (token_words text))
  behind-total k p x = omega (arith, total-around (token_words text) p.at, total-token_words text short, x.where_it_is.tiles)

  abbrev inp : Input
  inp = input text (token_words text)

  -- one that passed so many tokens
  passed_over : (n : ℕ) → (p : Counters) × Behind text n p
  passed_over zero = (new inp 0, new-behind text 0 short)
  passed_over (suc n) =
      let p = passed_over n in
      let q : Counters = record { at = (next inp p.0).at; byte = (next inp p.0).byte; taken = 0; used = 0; left = 0; stop = 0 } in
      (q, next-behind text n p.0 q p.1 refl refl)

  pub sought : (n : ℕ) (p : Counters) → p.at ≡ raw_number text n → p.byte ≡ total (take p.at (token_words text)) → Behind text n p
  sought n p a b =
      let ws = token_words text in
      let q = passed_over n in
      let there : q.0.at ≡ p.at = behind-at text n q.0 q.1 ∙ sym a in
      let starts : q.0.byte ≡ p.byte = behind-total n q.0 q.1 ∙ ap (λ (i : ℕ). total (take i ws)) there ∙ sym b in
      let ps = drop n (placed text 0 (tokens text)) in
      let ns = drop n (raw_numbers 0 (tokens text)) in
      record {
        where_it_is = subst (λ (i : ℕ). Stood text ws ps ns i p.byte) there (subst (λ (c : ℕ). Stood text ws ps ns q.0.at c) starts q.1.where_it_is);
      }
