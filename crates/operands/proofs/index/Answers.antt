-- An integer with its end, else a name where one stands. Assumes nothing.
use mathlib.Core.Path.{sym, ◌∙◌}
use Rattle.predictive.specs.Grammar.{free}
use Rattle.predictive.specs.Reader.{ones, first, null}
use Rattle.parser.proofs.Parsers.{r-seq, r-opt_left, r-opt_right}
use Rattle.operands.proofs.index.Goals as goal

pub returns-then-at : goal.returns-then-at
unfolding ones first null
returns-then-at c =
    λ d. r-opt_left (sym c.at.ensures ∙ c.if-at.true) (r-seq (c.bump.ensures d) (c.index_end.ensures d))

pub returns-else-at : goal.returns-else-at
unfolding ones first null
returns-else-at c =
    λ d. r-opt_right (sym c.at.ensures ∙ c.if-at.false) (c.eat.ensures d free)
