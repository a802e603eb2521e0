-- `reference`, `(`, a path, `)`, in a node. Assumes nothing.
use Rattle.parser.proofs.Parsers.{r-seq, n_inside}
use Rattle.operands.proofs.reference_value.Goals as goal

pub returns : goal.returns
returns c =
    λ d. n_inside c.start-m.ensures
    (r-seq (c.bump.ensures d)
    (r-seq (c.expect.ensures d) (r-seq (c.containment_path.ensures d) (c.expect-2.ensures d))))
    c.complete.ensures
