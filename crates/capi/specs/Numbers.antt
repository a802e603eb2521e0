-- What the exported calls write into lent numbers. Assumes nothing.
use Rattle.std.specs.Prelude.{ℕ, min, ◌≡◌, Bool, List, [], ◌∷◌, ◌++◌, length, take, drop}
use Rattle.aadl.specs.declared.Answer.{Answer}
use Rattle.aadl.specs.declared.TreeAnswer.{TreeAnswer}
use Rattle.aadl.specs.Slices.{MutSlice, before, after}
use Rattle.aadl.specs.Tokens.{total, token_text}
use Rattle.aadl.specs.Encoding.{first_words}
use Rattle.aadl.specs.Answers.{answered}
use Rattle.aadl.specs.Demand.{is_clean}
use Rattle.aadl.specs.NumberParts.{number_parts, part_numbers}
use Rattle.lexer.specs.Filling.{write}

-- "The answer holds number (0 if none), place (0 if none), tokens, taken .., events."
abbrev pub numbers : Answer → List ℕ
numbers a = a.number ∷ a.place ∷ a.tokens ∷ a.taken ∷ a.events ∷ []

-- "The answer gains the number of records": a sixth number, behind the five.
abbrev pub six_in_a_row : TreeAnswer → List ℕ
six_in_a_row a = numbers a.answer ++ (a.records ∷ [])

-- An exported call: the library's call gave an answer that keeps its promise, and the answer's numbers are written over the first of the lent ones, as
-- many as are lent; the others are as they were.
pub record Exported {A : Type 0} (numbers : A → List ℕ) (Promise : A → Type 0) (lent : MutSlice) : Type 0 where
  pub answer : A
  pub promise : Promise answer
  pub told : after lent ≡ write (numbers answer) (before lent)

-- Whether words that an answer of the section call counts are clean, where it refuses nothing and so many tokens are taken.
abbrev pub clean_words : (taken : ℕ) → (tokens events : List ℕ) → Bool
clean_words n ts es = is_clean (answered (length ts) n (length (first_words es))) ts es

-- Where a token's text starts: where the lengths before it sum to, but never past the text's end.
abbrev pub text_start : (text words : List ℕ) → (number : ℕ) → ℕ
text_start text words i = min (total (take i words)) (length text)

-- Two lent numbers at exit: the start and the length of a token's text, as far as they are lent; the others as they were.
unfoldable pub part_told : (text words : List ℕ) → (number : ℕ) → (old : List ℕ) → List ℕ
part_told text words i old = write (text_start text words i ∷ length (token_text text words i) ∷ []) old

-- The part of a text that has a start and a length.
abbrev pub part_of : (text : List ℕ) → (start len : ℕ) → List ℕ
part_of text start len = take len (drop start text)

-- The part of the text that these two numbers tell is the token's text.
abbrev pub IsThePart : (text words : List ℕ) → (number : ℕ) → Type 0
IsThePart text words i = part_of text (text_start text words i) (length (token_text text words i)) ≡ token_text text words i

-- Eight lent numbers at exit, likewise: the parts of the number that a token is.
unfoldable pub parts_told : (text words : List ℕ) → (number : ℕ) → (old : List ℕ) → List ℕ
parts_told text words i old = write (part_numbers (number_parts text words i)) old
