-- The word and a classifier in parentheses, in a node. Assumes nothing.
use Rattle.parser.proofs.Levels.{seq-at, node_at, same}
use Rattle.grammar.proofs.classifier_value.Goals as goal

pub returns : goal.returns
returns c =
    node_at same c.start-m.ensures
    (seq-at same (c.bump.ensures _)
    (seq-at same (c.expect.ensures _) (seq-at same c.classifier_ref.ensures (c.expect-2.ensures _))))
    c.complete.ensures
