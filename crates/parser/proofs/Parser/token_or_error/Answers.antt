-- The token where it stands, else the message. Assumes nothing.
use mathlib.Core.Path.{sym, ◌∙◌}
use Rattle.predictive.specs.Reader.{ones}
use Rattle.parser.proofs.Parsers.{r-tok_yes, r-taken, r-tok_no}
use Rattle.parser.proofs.Parser.token_or_error.Goals as goal

pub returns-then-at : goal.returns-then-at
unfolding ones
returns-then-at c = λ d. r-tok_yes (sym c.at.ensures ∙ c.if-at.true) (r-taken c.requires.0 (sym c.at.ensures ∙ c.if-at.true) c.take.ensures)

pub returns-else-at : goal.returns-else-at
unfolding ones
returns-else-at c = λ d. r-tok_no (sym c.at.ensures ∙ c.if-at.false) c.error.ensures
