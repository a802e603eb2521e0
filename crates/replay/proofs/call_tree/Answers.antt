-- The lines are those of the answer and of what it leaves in the words that were filled. Assumes nothing.
use Prim.Native.Nat.{ℕ}
use mathlib.Core.Path.{◌≡◌, ◌∙◌}
use mathlib.Core.List.{List}
use lib.ListN.{length, replicate}
use Rattle.aadl.specs.Limits.{base}
use Rattle.aadl.specs.Answers.{token_words, event_words, left_in}
use Rattle.aadl.specs.Records.{record_words, tree_answer}
use Rattle.aadl.specs.declared.TreeAnswer.{TreeAnswer}
use Rattle.aadl.proofs.TreeCalls.{tree-answered, tree-left}
use Rattle.writing.proofs.WriteLaws.{writes-same}
use Rattle.replay_lines.specs.Records.{old_word, tree_lines}
use Rattle.replay.specs.Calls.{tree_called}
use Rattle.replay.proofs.Filled.{long}
use Rattle.replay.proofs.call_tree.Goals as goal

module _ (text : List ℕ) (m n k : ℕ) (ts es rs : List ℕ) (f : ts ≡ replicate m old_word) (g : es ≡ replicate n old_word) (h : rs ≡ replicate k old_word) where
  lines : (a : TreeAnswer) (us vs ws : List ℕ) → a ≡ tree_answer base text (length ts) (length es) (length rs) → us ≡ left_in a.answer (token_words text) ts →
      vs ≡ left_in a.answer (event_words base text) es → ws ≡ left_in a.answer (record_words base text) rs → tree_lines a us vs ws ≡ tree_called text m n k
  unfolding tree_called
  lines a us vs ws q t e r =
      let answer = q ∙ (λ i. tree_answer base text (long m ts f i) (long n es g i) (long k rs h i)) in
      let tokens = t ∙ (λ i. left_in (answer i).answer (token_words text) (f i)) in
      let events = e ∙ (λ i. left_in (answer i).answer (event_words base text) (g i)) in
      let records = r ∙ (λ i. left_in (answer i).answer (record_words base text) (h i)) in
      λ i. tree_lines (answer i) (tokens i) (events i) (records i)

pub returns : goal.returns
returns c =
    let at-put = c in
    let at_call = at-put in
    let at-fill3 = at_call in
    let at-fill2 = at-fill3 in
    let at_fill_lem = at-fill2 in
    let x = at_fill_lem.args in
    let called = at_call.property_tree-a.ensures in
    let same =
    lines x.src.now (length x.tokens.now) (length x.events.now) (length x.records.now) _ _ _ at_fill_lem.fill.ensures at-fill2.fill-2.ensures at-fill3.fill-3.ensures _ _
    _ _ (tree-answered called) (tree-left called).0 (tree-left called).1.0 (tree-left called).1.1 in
    writes-same at-put.put_tree.ensures same
