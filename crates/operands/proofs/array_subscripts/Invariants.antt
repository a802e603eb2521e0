-- A loop over subscripts (Loops). Assumes nothing.
use Prim.Native.Nat.{ℕ}
use Rattle.aadl.specs.Section as G
use Rattle.parser.proofs.Parsers.{Turning, μ}
use Rattle.operands.proofs.array_subscripts.Given as goal

abbrev pub invariant-loop-p : goal.invariant-loop-p
invariant-loop-p l = (d : ℕ) → Turning d G.subscript l.initial.p l.p

abbrev pub decreases-loop-p : goal.decreases-loop-p
decreases-loop-p l = μ l.p
