-- The literal, in a node. Assumes nothing.
use Rattle.parser.proofs.Parsers.{n_inside}
use Rattle.operands.proofs.string_value.Goals as goal

pub returns : goal.returns
returns c =
    λ d. n_inside c.start-m.ensures (c.bump.ensures d) c.complete.ensures
