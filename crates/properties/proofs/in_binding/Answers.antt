-- `in binding`, `(`, a classifier, `)`, in a node, where `in binding` stands. Assumes nothing.
use mathlib.Core.Path.{sym, ◌∙◌}
use Rattle.predictive.specs.Reader.{ones, first, null}
use Rattle.properties.proofs.PropertyNames.{r-two}
use Rattle.parser.proofs.Parsers.{r-opt_yes, r-opt_no}
use Rattle.parser.proofs.Levels.{seq-at, inside-at, same}
use Rattle.properties.proofs.in_binding.Goals as goal

pub returns-then-at_pair : goal.returns-then-at_pair
unfolding ones first null
returns-then-at_pair c =
    r-opt_yes (sym c.at_pair.ensures ∙ c.if-at_pair.true)
    (inside-at same c.start-m.ensures
    (seq-at same (r-two (c.bump.ensures _) (c.bump-then-at_pair.ensures _))
    (seq-at same (c.expect.ensures _) (seq-at same c.classifier_ref.ensures (c.expect-then-at_pair.ensures _))))
    c.complete.ensures)

pub returns-else-at_pair : goal.returns-else-at_pair
unfolding ones first null
returns-else-at_pair c =
    r-opt_no (sym c.at_pair.ensures ∙ c.if-at_pair.false)
