-- The lines are those of the answer and of what it leaves in the words that were filled. Assumes nothing.
use Prim.Native.Nat.{ℕ}
use mathlib.Core.Path.{◌≡◌, ◌∙◌}
use mathlib.Core.List.{List}
use lib.ListN.{length, replicate}
use Rattle.aadl.specs.Limits.{base}
use Rattle.aadl.specs.Answers.{token_words, event_words, left_in}
use Rattle.aadl.specs.ValueCall.{value_answer}
use Rattle.aadl.specs.declared.ValueAnswer.{ValueAnswer}
use Rattle.aadl.proofs.ValueCalls.{value-answered, value-left}
use Rattle.writing.proofs.WriteLaws.{writes-same}
use Rattle.replay_lines.specs.Records.{old_word, value_lines}
use Rattle.replay.specs.Calls.{value_called}
use Rattle.replay.proofs.Filled.{long}
use Rattle.replay.proofs.call_value.Goals as goal

module _ (text : List ℕ) (m n k : ℕ) (ts es : List ℕ) (f : ts ≡ replicate m old_word) (g : es ≡ replicate n old_word) where
  lines : (a : ValueAnswer) (us vs : List ℕ) → a ≡ value_answer base text (length ts) (length es) k → us ≡ left_in a.answer (token_words text) ts →
      vs ≡ left_in a.answer (event_words base text) es → value_lines a us vs ≡ value_called text m n k
  unfolding value_called
  lines a us vs q t e =
      let answer = q ∙ (λ i. value_answer base text (long m ts f i) (long n es g i) k) in
      let tokens = t ∙ (λ i. left_in (answer i).answer (token_words text) (f i)) in
      let events = e ∙ (λ i. left_in (answer i).answer (event_words base text) (g i)) in
      λ i. value_lines (answer i) (tokens i) (events i)

pub returns : goal.returns
returns c =
    let at-put = c in
    let at_call = at-put in
    let at-fill2 = at_call in
    let at_fill_lem = at-fill2 in
    let x = at_fill_lem.args in
    let called = at_call.association_value-a.ensures in
    let same =
    lines x.src.now (length x.tokens.now) (length x.events.now) x.number _ _ at_fill_lem.fill.ensures at-fill2.fill-2.ensures _ _ _ (value-answered called) (value-left called).0 (value-left called).1 in
    writes-same at-put.put_valued.ensures same
