-- A message and the literal, in a node. Assumes nothing.
use Rattle.parser.proofs.Parsers.{r-seq, n_inside, r-fail}
use Rattle.operands.proofs.c_style_value.Goals as goal

pub returns : goal.returns
returns c =
    λ d. n_inside c.start-m.ensures (r-seq (r-fail c.error.ensures) (c.bump_any.ensures d))
    c.complete.ensures
