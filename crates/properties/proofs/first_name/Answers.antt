-- An identifier where one stands, else what `property_name` reads. Assumes nothing.
use mathlib.Core.Path.{sym, ◌∙◌}
use Rattle.predictive.specs.Reader.{ones, first}
use Rattle.parser.proofs.Parsers.{r-left}
use Rattle.properties.proofs.first_name.Goals as goal

pub returns-then-at : goal.returns-then-at
unfolding ones first
returns-then-at c =
    λ d. r-left (sym c.at.ensures ∙ c.if-at.true) (c.bump.ensures d)
