-- An expression, and modes where `in modes` stands. Assumes nothing.
use mathlib.Core.Path.{sym, ◌∙◌}
use Rattle.predictive.specs.Reader.{ones, first, null}
use Rattle.parser.proofs.Parsers.{r-opt_yes, r-opt_no, r-inside}
use Rattle.parser.proofs.Levels.{seq-at, same}
use Rattle.properties.proofs.property_value.Goals as goal

pub returns-then-at_pair : goal.returns-then-at_pair
unfolding ones first null
returns-then-at_pair c =
    seq-at same c.property_expression.ensures
    (r-opt_yes (sym c.at_pair.ensures ∙ c.if-at_pair.true)
    (r-inside c.start-m.ensures (c.in_modes.ensures _) c.complete.ensures))

pub returns-else-at_pair : goal.returns-else-at_pair
unfolding ones first null
returns-else-at_pair c =
    seq-at same c.property_expression.ensures (r-opt_no (sym c.at_pair.ensures ∙ c.if-at_pair.false))
