-- A section call that refuses nothing: the words that it counts are among those lent and are the text's (that it passed every check, and that
-- they tell its events, is aadl's `all-passed` and `events-told`). Assumes nothing.
use Prim.Native.Nat.{ℕ, ◌≤◌, ◌<◌}
use native.Mathlib.Omega.{arith}
use mathlib.Core.Path.{◌≡◌, ap, ◌∙◌}
use mathlib.Core.List.{List}
use lib.ListN.{length, take, length-map, length-take}
use lib.Seq.{take_at}
use Rattle.aadl.specs.declared.Answer.{Answer}
use Rattle.aadl.specs.declared.Limits.{Limits}
use Rattle.aadl.specs.Limits.{Allowed}
use Rattle.aadl.specs.Tokens.{tokens, token_word}
use Rattle.aadl.specs.Symbols.{symbols, raw_number}
use Rattle.aadl.specs.Encoding.{words_for}
use Rattle.aadl.specs.Reading.{events}
use Rattle.aadl.specs.Answers.{token_words, event_words}
use Rattle.aadl.specs.Promises.{SectionCalled}
use Rattle.aadl.proofs.EventPairs.{length_words_of}
pub use Rattle.aadl.proofs.CallsRead.{all-passed, all-counted, events-told}
use Rattle.aadl.proofs.CallsRead.{tokens-filled, events-filled}

module _ {limits : Limits} {text old last : List ℕ} {a : Answer} {ts es : List ℕ} (c : SectionCalled limits text old last a ts es) (z : a.number ≡ 0) where
  pub passed-short : Allowed limits → length text < 65536
  passed-short h = omega (arith, h, (all-passed c z).short)

  pub token_words-counted : take a.tokens ts ≡ token_words text
  token_words-counted =
      (λ i. take (all-counted c z i).tokens (tokens-filled c z i)) ∙ take_at (token_words text) _ (length (tokens text)) (length-map (tokens text) token_word)

  pub tokens-fit : a.tokens ≤ length ts
  tokens-fit =
      omega (arith, length-take a.tokens ts, ap length token_words-counted, length-map (tokens text) token_word, ap (λ (x : Answer). x.tokens) (all-counted c z))

  pub event_words-counted : take (words_for a.events) es ≡ event_words limits text
  event_words-counted =
      let us = events limits (symbols text) in
      (λ i. take (words_for (all-counted c z i).events) (events-filled c z i))
      ∙ take_at (event_words limits text) _ (words_for (length us)) (length_words_of (raw_number text) 0 us)

  pub event_words-long : length (take (words_for a.events) es) ≡ words_for (length (events limits (symbols text)))
  event_words-long = ap length event_words-counted ∙ length_words_of (raw_number text) 0 (events limits (symbols text))

  pub events-fit : words_for a.events ≤ length es
  events-fit = omega (arith, length-take (words_for a.events) es, event_words-long, ap (λ (x : Answer). x.events) (all-counted c z))
