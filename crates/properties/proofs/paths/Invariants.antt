-- A loop that reads a path, and ends behind it where no comma stands (Separated). Assumes nothing.
use Prim.Native.Nat.{ℕ}
use Rattle.aadl.specs.Section as G
use Rattle.aadl.specs.Kinds.{COMMA}
use Rattle.parser.proofs.Parsers.{μ, Due}
use Rattle.properties.proofs.paths.Given as goal

abbrev pub invariant-loop-p : goal.invariant-loop-p
invariant-loop-p l = (d : ℕ) → Due d G.path (G.begun COMMA) l.initial.p l.p

abbrev pub decreases-loop-p : goal.decreases-loop-p
decreases-loop-p l = μ l.p
