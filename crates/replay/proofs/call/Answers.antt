-- The lines are those of the answer and of what it leaves in the words that were filled. Assumes nothing.
use Prim.Native.Nat.{ℕ}
use mathlib.Core.Path.{◌≡◌, refl, sym}
use mathlib.Core.Bool.{Bool, true, false}
use mathlib.Core.List.{List, []}
use lib.ListN.{length, replicate, length-replicate}
use Rattle.aadl.specs.Slices.{Slice, held, MutSlice, before, after}
use Rattle.aadl.specs.Answers.{token_words, left_in}
use Rattle.aadl.specs.declared.Answer.{Answer}
use Rattle.aadl.proofs.CallsRead.{tokens-answered, tokens-left_only, section-answered, tokens-left, events_left as left-by-section}
use Rattle.replay_lines.specs.Records.{old_word, record_lines}
use Rattle.replay.specs.Calls.{MakesCall, answer_of, events_left, called}
use Rattle.replay.proofs.call.Goals as goal

-- The answer and the words by how many words were lent.
by-counts : (only : Bool) {text : Slice} {tokens events : MutSlice} {a : Answer} → MakesCall only text tokens events a →
    (a ≡ answer_of only (held text) (length (before tokens)) (length (before events))) × (after tokens ≡ left_in a (token_words (held text)) (before tokens))
    × (after events ≡ events_left only a (held text) (before events))
by-counts true h =
    let t = h.tokens_only refl in
    (tokens-answered t.0, tokens-left_only t.0, t.1)
by-counts false h =
    let s = h.section refl in
    (section-answered s, tokens-left s, left-by-section s)

module _ (only : Bool) (text : List ℕ) (m n : ℕ) (ts es : List ℕ) (f : ts ≡ replicate m old_word) (g : es ≡ replicate n old_word) where
  lines : (a : Answer) (us vs : List ℕ) → a ≡ answer_of only text (length ts) (length es) → us ≡ left_in a (token_words text) ts → vs ≡ events_left only a text es
      → record_lines a [] us vs ≡ called only text m n
  unfolding called
  lines a us vs h t e = rw (t, e, h, f, g, length-replicate m old_word, length-replicate n old_word) refl

pub returns : goal.returns
returns c =
    let a = c.args in
    let h = by-counts a.only c.answer-a.ensures in
    let filled = lines a.only a.src.now (length a.tokens.now) (length a.events.now) c.fill.new.words c.fill-2.new.words c.fill.ensures c.fill-2.ensures in
    let same = filled c.answer-a.result c.answer-a.new.tokens c.answer-a.new.events h.0 h.1 h.2 in
    rw (sym same) c.put_record.ensures
