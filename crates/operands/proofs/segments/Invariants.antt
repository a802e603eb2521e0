-- Where a name stands, a loop that reads a segment, and ends behind it where no dot stands (Separated). A segment's reader may read
-- nothing; the first does not, since a name stands. Assumes nothing.
use Prim.Native.Nat.{ℕ}
use Rattle.predictive.specs.Notation.{maybe}
use Rattle.aadl.specs.Section as G
use Rattle.aadl.specs.Kinds.{DOT}
use Rattle.parser.proofs.Parsers.{μ, Due}
use Rattle.operands.proofs.segments.Given as goal

abbrev pub invariant-loop-p : goal.invariant-loop-p
invariant-loop-p l = (d : ℕ) → Due d (maybe G.segment) (G.begun DOT) l.initial.p l.p

abbrev pub decreases-loop-p : goal.decreases-loop-p
decreases-loop-p l = μ l.p
