-- What is found of an association's value where the section call refuses nothing. Assumes nothing.
use Rattle.std.specs.Prelude.{ℕ, ◌≤◌, ◌<◌, ◌≡◌, Bool, false, List, length, ℤ, Result, Ok, Err}
use Rattle.aadl.specs.declared.Answer.{Answer}
use Rattle.aadl.specs.declared.ValueAnswer.{ValueAnswer}
use Rattle.aadl.specs.declared.Limits.{Limits}
use Rattle.aadl.specs.Limits.{most_events}
use Rattle.aadl.specs.Symbols.{symbols}
use Rattle.aadl.specs.Reading.{events, too_deep, reads_cleanly}
use Rattle.aadl.specs.Answers.{checked, token_words, event_words}
use Rattle.aadl.specs.ValueCall.{value_checks, with_value, value_refused, valuing}
use Rattle.value.specs.declared.NoValue.{NoValue}
use Rattle.value.specs.declared.NoValue.TheVariants.{NoConstant, Beyond}

-- A text that was read, cleanly or not: the token words and the event words are its own.
pub record WasRead (limits : Limits) (text toks ws : List ℕ) (clean : Bool) : Type 0 where
  pub short : length text < 65536
  pub words : toks ≡ token_words text
  pub pairs : ws ≡ event_words limits text
  pub deep : too_deep limits (symbols text) ≡ false
  pub few : length (events limits (symbols text)) ≤ most_events
  pub cleanly : clean ≡ reads_cleanly limits (symbols text)

-- the number and the place of the refusal where there is no value
abbrev pub number_of : NoValue → ℕ
number_of (NoConstant p) = 9
number_of (Beyond p) = 10

abbrev pub place_of : NoValue → ℕ
place_of (NoConstant p) = p
place_of (Beyond p) = p

-- The answer by a verdict, where the section call answered a.
abbrev pub judged : Answer → Result ℤ NoValue → ValueAnswer
judged a (Ok v) = with_value a v
judged a (Err w) = value_refused (number_of w) (place_of w)

-- A verdict that is right: where the section call answered a and refused nothing, the value call's own checks give the answer by it.
pub record Judged (limits : Limits) (text : List ℕ) (number : ℕ) (v : Result ℤ NoValue) : Type 0 where
  pub decides : (a : Answer) → checked value_refused (value_checks limits text number) ((valuing limits text number).added a) ≡ judged a v
