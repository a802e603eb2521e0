-- Where tokens stand in a text that they go over. Assumes nothing.
use Rattle.std.specs.Prelude.{ℕ, ◌<◌, ◌≡◌, List, length}
use Rattle.aadl.specs.Answers.{token_words}
use Rattle.parser.specs.declared.Tokens.{Tokens}
use Rattle.parser.specs.Parsers.{cursor}
use Rattle.section.specs.Standing.{Passed}

-- They go over a text and its token words, and k of its non-trivia tokens are behind.
pub record Reached (text : List ℕ) (k : ℕ) (t : Tokens) : Type 0 where
  pub short : length text < 65536
  pub text_is : t.text.now ≡ text
  pub words_are : t.words.now ≡ token_words text
  pub stands : Passed text k (cursor t)

-- They stand at one of their text's tokens, or at its end.
abbrev pub Stands : Tokens → Type 0
Stands t = (k : ℕ) × Reached t.text.now k t
