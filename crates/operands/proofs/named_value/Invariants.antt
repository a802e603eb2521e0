-- The name, and a loop over qualifiers (Loops), in a node. Assumes nothing.
use Prim.Native.Nat.{ℕ}
use Rattle.aadl.specs.Section as G
use Rattle.parser.proofs.Parsers.{Turning, μ}
use Rattle.operands.proofs.named_value.Given as goal

abbrev pub invariant-loop-p : goal.invariant-loop-p
invariant-loop-p l = (d : ℕ) → Turning d G.qualified l.initial.p l.p

abbrev pub decreases-loop-p : goal.decreases-loop-p
decreases-loop-p l = μ l.p
