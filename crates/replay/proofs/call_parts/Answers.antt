-- The line is that of the parts in what the tokens-only call leaves in the words that were filled. Assumes nothing.
use Prim.Native.Nat.{ℕ}
use mathlib.Core.Path.{◌≡◌, ap, ◌∙◌}
use mathlib.Core.List.{List}
use lib.ListN.{length, replicate, length-replicate}
use Rattle.aadl.specs.Limits.{base}
use Rattle.aadl.specs.Words.{bytes}
use Rattle.aadl.specs.NumberParts.{number_parts, part_numbers}
use Rattle.aadl.specs.Answers.{tokens_answer, token_words, left_in}
use Rattle.aadl.specs.declared.Answer.{Answer}
use Rattle.aadl.specs.declared.Number.{Number}
use Rattle.aadl.proofs.CallsRead.{tokens-answered, tokens-left_only}
use Rattle.writing.proofs.WriteLaws.{writes-same}
use Rattle.replay_lines.specs.Records.{old_word, line}
use Rattle.replay.specs.Calls.{parts_called}
use Rattle.replay.proofs.call_parts.Goals as goal

row : (text : List ℕ) (m i : ℕ) (ts us : List ℕ) (a : Answer) (n : Number) → ts ≡ replicate m old_word → a ≡ tokens_answer base text (length ts) →
    us ≡ left_in a (token_words text) ts → n ≡ number_parts text us i → line (bytes "parts") (part_numbers n) ≡ parts_called text m i
unfolding parts_called
row text m i ts us a n f q t p =
    let answer = q ∙ ap (tokens_answer base text) (ap length f ∙ length-replicate m old_word) in
    let tokens = t ∙ (λ j. left_in (answer j) (token_words text) (f j)) in
    ap (λ (n : Number). line (bytes "parts") (part_numbers n)) (p ∙ ap (λ (ws : List ℕ). number_parts text ws i) tokens)

pub returns : goal.returns
returns c =
    let x = c.args in
    let called = c.tokenize.ensures in
    writes-same c.put_parts.ensures
    (row x.src.now (length x.tokens.now) x.number _ _ _ _ c.fill.ensures (tokens-answered called) (tokens-left_only called) c.number_parts.ensures.parts)
