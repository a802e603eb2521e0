-- `properties`, then `none` and `;`, or a loop over associations (Loops), in a node. Assumes nothing.
use Rattle.aadl.specs.Section as G
use Rattle.parser.proofs.Parsers.{Turning, μ}
use Rattle.properties.proofs.property_section.Given as goal

abbrev pub invariant-loop-p : goal.invariant-loop-p
invariant-loop-p l = Turning l.initial.p.left G.read_association l.initial.p l.p

abbrev pub decreases-loop-p : goal.decreases-loop-p
decreases-loop-p l = μ l.p
