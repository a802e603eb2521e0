-- The parts of an association in a row, in a node. Assumes nothing.
use Rattle.predictive.specs.Grammar.{free}
use Rattle.parser.proofs.Levels.{seq-at, inside-at, same}
use Rattle.properties.proofs.property_association.Goals as goal

pub returns : goal.returns
returns c =
    inside-at same c.start-m.ensures
    (seq-at same (c.property_ref.ensures _)
    (seq-at same (c.arrow.ensures _)
    (seq-at same (c.eat.ensures _ free)
    (seq-at same c.property_values.ensures
    (seq-at same (c.applies_to.ensures _) (seq-at same c.in_binding.ensures (c.expect.ensures _)))))))
    c.complete.ensures
