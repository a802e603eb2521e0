-- `applies`, `to` and paths, in a node, where `applies` stands. Assumes nothing.
use mathlib.Core.Path.{sym, ◌∙◌}
use Rattle.predictive.specs.Reader.{ones, first, null}
use Rattle.parser.proofs.Parsers.{r-seq, r-opt_yes, r-opt_no, r-inside}
use Rattle.properties.proofs.applies_to.Goals as goal

pub returns-then-at : goal.returns-then-at
unfolding ones first null
returns-then-at c =
    λ d. r-opt_yes (sym c.at.ensures ∙ c.if-at.true)
    (r-inside c.start-m.ensures
    (r-seq (c.bump.ensures d) (r-seq (c.expect.ensures d) (c.paths.ensures d)))
    c.complete.ensures)

pub returns-else-at : goal.returns-else-at
unfolding ones first null
returns-else-at c =
    λ d. r-opt_no (sym c.at.ensures ∙ c.if-at.false)
