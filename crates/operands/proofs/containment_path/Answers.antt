-- The segments, in a node. Assumes nothing.
use Rattle.parser.proofs.Parsers.{r-inside}
use Rattle.operands.proofs.containment_path.Goals as goal

pub returns : goal.returns
returns c =
    λ d. r-inside c.start-m.ensures (c.segments.ensures d) c.complete.ensures
