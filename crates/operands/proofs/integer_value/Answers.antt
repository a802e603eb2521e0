-- The literal and its unit, in a node. Assumes nothing.
use Rattle.predictive.specs.Grammar.{free}
use Rattle.parser.proofs.Parsers.{r-seq, n_inside}
use Rattle.operands.proofs.integer_value.Goals as goal

pub returns : goal.returns
returns c =
    λ d. n_inside c.start-m.ensures (r-seq (c.bump.ensures d) (c.eat.ensures d free)) c.complete.ensures
