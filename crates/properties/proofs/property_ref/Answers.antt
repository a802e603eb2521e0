-- The names, in a node. Assumes nothing.
use Rattle.parser.proofs.Parsers.{r-seq, r-inside}
use Rattle.properties.proofs.property_ref.Goals as goal

pub returns : goal.returns
returns c =
    λ d. r-inside c.start-m.ensures (r-seq (c.first_name.ensures d) (c.name_in_set.ensures d))
    c.complete.ensures
