-- What a record's call answers, and the lines that are written for it. Assumes nothing.
use Rattle.std.specs.Prelude.{ℕ, ◌+◌, ◌<◌, ◌≡◌, Bool, true, false, cond, List, [], length, replicate, is_none}
use Rattle.std.proofs.lemmas.List.Edits.{sets}
use Rattle.aadl.specs.Slices.{Slice, MutSlice, before, after}
use Rattle.aadl.specs.Limits.{base}
use Rattle.aadl.specs.Answers.{tokens_answer, section_answer, token_words, event_words, left_in}
use Rattle.aadl.specs.Promises.{MakesTokensCall, MakesSectionCall}
use Rattle.aadl.specs.Records.{record_words, tree_answer}
use Rattle.aadl.specs.ValueCall.{value_answer}
use Rattle.aadl.specs.declared.Answer.{Answer}
use Rattle.aadl.specs.Words.{bytes}
use Rattle.aadl.specs.NumberParts.{number_parts, part_numbers}
use Rattle.replay_lines.specs.Records.{old_word, line, record_lines, tree_lines, value_lines}
use Rattle.writing.specs.declared.Writer.{Writer}
use Rattle.replay.specs.declared.Request.{Request}
use Rattle.replay.specs.declared.Request.TheVariants.{Plain, Tree, Parts, Value}
use Rattle.replay.specs.declared.Head.{Head}
use Rattle.replay.specs.declared.Lent.{Lent}

-- The call of a plain record was made: the tokens-only call, which leaves the event words as they are, or the section call.
pub record MakesCall (only : Bool) (text : Slice) (tokens events : MutSlice) (a : Answer) : Type 0 where
  pub tokens_only : only ≡ true → MakesTokensCall base text tokens a × (after events ≡ before events)
  pub section : only ≡ false → MakesSectionCall base text tokens events a

-- Its answer by how many words are lent.
abbrev pub answer_of : (only : Bool) → (text : List ℕ) → (tokens events : ℕ) → Answer
answer_of only text m n = cond only (tokens_answer base text m) (section_answer base text m n)

-- The event words after the call: the tokens-only call leaves them as they are.
abbrev pub events_left : (only : Bool) → Answer → (text old : List ℕ) → List ℕ
events_left only a text old = cond only old (left_in a (event_words base text) old)

-- The lines of a call on words that are filled anew.
unfoldable pub called : (only : Bool) → (text : List ℕ) → (tokens events : ℕ) → List ℕ
called only text m n =
    let a = answer_of only text m n in
    record_lines a [] (left_in a (token_words text) (replicate m old_word)) (events_left only a text (replicate n old_word))

-- The lines of the tree call, likewise.
unfoldable pub tree_called : (text : List ℕ) → (tokens events records : ℕ) → List ℕ
tree_called text m n k =
    let r = tree_answer base text m n k in
    let a = r.answer in
    tree_lines r
    (left_in a (token_words text) (replicate m old_word))
    (left_in a (event_words base text) (replicate n old_word))
    (left_in a (record_words base text) (replicate k old_word))

-- The line of the parts of a token, in the words that the tokens-only call left.
unfoldable pub parts_called : (text : List ℕ) → (tokens number : ℕ) → List ℕ
parts_called text m i =
    let a = tokens_answer base text m in
    line (bytes "parts") (part_numbers (number_parts text (left_in a (token_words text) (replicate m old_word)) i))

-- The lines of the value call, for the association with a number.
unfoldable pub value_called : (text : List ℕ) → (tokens events number : ℕ) → List ℕ
value_called text m n i =
    let r = value_answer base text m n i in
    let a = r.answer in
    value_lines r (left_in a (token_words text) (replicate m old_word)) (left_in a (event_words base text) (replicate n old_word))

-- The lines of the call that a record asks for. Where no event words are lent, a plain call is the tokens-only one.
abbrev pub made_by : Request → (only : Bool) → (text : List ℕ) → (tokens events records : ℕ) → List ℕ
made_by Plain only text m n k = called only text m n
made_by (Tree _) only text m n k = tree_called text m n k
made_by (Parts i) only text m n k = parts_called text m i
made_by (Value i) only text m n k = value_called text m n i

abbrev pub made : Head → (text : List ℕ) → (tokens events records : ℕ) → List ℕ
made h text m n k = made_by h.call (is_none h.events) text m n k

-- The same of what is lent to a call.
abbrev pub made_of : Head → Lent → List ℕ
made_of h lent = made h lent.text.now (length lent.tokens.now) (length lent.events.now) (length lent.records.now)

-- Where another record may follow, a record's lines stand whole in the bytes that wait, from a place on, and what stood before is kept.
pub record StandsWhole (lines : List ℕ) (w : Writer) (follows : Bool) (after : Writer) : Type 0 where
  pub whole : follows ≡ true → (after.at ≡ w.at + length lines) × (after.at < length w.out.now) × (after.out.now ≡ sets w.out.now w.at lines)
