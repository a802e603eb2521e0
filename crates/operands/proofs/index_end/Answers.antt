-- `..` where it stands, and then an integer where one stands. Assumes nothing.
use mathlib.Core.Path.{sym, ◌∙◌}
use Rattle.predictive.specs.Grammar.{free}
use Rattle.predictive.specs.Reader.{ones, first, null}
use Rattle.parser.proofs.Parsers.{r-seq, r-opt_yes, r-opt_no}
use Rattle.operands.proofs.index_end.Goals as goal

pub returns-then-at : goal.returns-then-at
unfolding ones first null
returns-then-at c =
    λ d. r-opt_yes (sym c.at.ensures ∙ c.if-at.true) (r-seq (c.bump.ensures d) (c.eat.ensures d free))

pub returns-else-at : goal.returns-else-at
unfolding ones first null
returns-else-at c =
    λ d. r-opt_no (sym c.at.ensures ∙ c.if-at.false)
