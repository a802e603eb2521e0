-- `bus` or `processor` where one stands, else message 8. Assumes nothing.
use mathlib.Core.Path.{sym, ◌∙◌}
use Rattle.predictive.specs.Reader.{ones}
use Rattle.parser.proofs.Parsers.{r-tok_yes, r-tok_no}
use Rattle.categories.proofs.virtual_kind.Goals as goal

pub returns-then-at_either : goal.returns-then-at_either
unfolding ones
returns-then-at_either c = λ d. r-tok_yes (sym c.at_either.ensures ∙ c.if-at_either.true) (c.bump_any.ensures d)

pub returns-else-at_either : goal.returns-else-at_either
unfolding ones
returns-else-at_either c = λ d. r-tok_no (sym c.at_either.ensures ∙ c.if-at_either.false) c.error.ensures
