-- The lines of a record, as tools/README.md has them: the answer, the words that it counts, and how many of the other words keep what they held; then the
-- same of the words that a call writes besides tokens and events. Assumes nothing.
use Rattle.std.specs.Prelude.{ℕ, ◌*◌, cond, List, [], ◌∷◌, ◌++◌, take, drop, eqb, count_by}
use Rattle.aadl.specs.declared.Answer.{Answer}
use Rattle.aadl.specs.declared.TreeAnswer.{TreeAnswer}
use Rattle.aadl.specs.declared.ValueAnswer.{ValueAnswer}
use Rattle.aadl.specs.Words.{bytes}
use Rattle.aadl.specs.Listing.{decimal}
use Rattle.aadl.specs.Encoding.{words_for}
use Rattle.writing.specs.SignedDecimal.{signed_decimal}

-- What every lent word holds before a call.
abbrev pub old_word : ℕ
old_word = 2779096485

-- Numbers in decimal, each after one space.
abbrev pub spaced : List ℕ → List ℕ
spaced [] = []
spaced (n ∷ ns) = (32 ∷ decimal n) ++ spaced ns

-- A name, numbers, and LF.
unfoldable pub line : (name numbers : List ℕ) → List ℕ
line name ns = (name ++ spaced ns) ++ (10 ∷ [])

-- How many words hold a value.
abbrev pub count : (value : ℕ) → List ℕ → ℕ
count v ws = count_by (λ w. eqb w v) ws

-- After a call that is not refused: how many words past the used ones keep what they held. After a refusal: how many are 0.
unfoldable pub rest : (number used : ℕ) → List ℕ → ℕ
rest number used ws = cond (eqb number 0) (count old_word (drop used ws)) (count 0 ws)

-- LINES ----------------------------------------------------------------------------------------------------------------

-- An answer's five numbers after their name.
unfoldable pub named_answer : Answer → List ℕ
named_answer a = bytes "answer" ++ spaced (a.number ∷ a.place ∷ a.tokens ∷ a.taken ∷ a.events ∷ [])

-- The lines of the token and of the event words.
unfoldable pub word_lines : Answer → (tokens events : List ℕ) → List ℕ
word_lines a ts es =
    (line (bytes "tokens") (take a.tokens ts) ++ line (bytes "events") (take (words_for a.events) es))
    ++ line (bytes "rest") (rest a.number a.tokens ts ∷ rest a.number (words_for a.events) es ∷ [])

-- The lines of words that a call writes besides: those that it used, and how many of the others keep what they held.
unfoldable pub more_lines : (number used : ℕ) → List ℕ → List ℕ
more_lines number used ws = line (bytes "more") (take used ws) ++ line (bytes "left") (rest number used ws ∷ [])

-- RECORDS --------------------------------------------------------------------------------------------------------------

-- The four lines of a record. A call's own field, if it adds one to the answer, stands behind the five numbers after one more space.
unfoldable pub record_lines : Answer → (added : List ℕ) → (tokens events : List ℕ) → List ℕ
record_lines a added ts es = (named_answer a ++ added) ++ (10 ∷ word_lines a ts es)

-- The six lines of a record of the tree call, which adds the number of records; a record is four words.
unfoldable pub tree_lines : TreeAnswer → (tokens events records : List ℕ) → List ℕ
tree_lines a ts es rs = record_lines a.answer (32 ∷ decimal a.records) ts es ++ more_lines a.answer.number (a.records * 4) rs

-- The four lines of a record of the value call, which adds the value.
unfoldable pub value_lines : ValueAnswer → (tokens events : List ℕ) → List ℕ
value_lines a ts es = record_lines a.answer (32 ∷ signed_decimal a.value) ts es
