-- One sign at a turn (Passing). The measure is what remains. Assumes nothing.
use Prim.Native.Nat.{ℕ}
use Rattle.section.specs.Reaching.{Reached}
use Rattle.evaluator.proofs.Passing.{left, SignsSoFar}
use Rattle.evaluator.proofs.signs.Given as goal

abbrev pub invariant-loop-kind : goal.invariant-loop-kind
invariant-loop-kind l = (k : ℕ) → Reached l.initial.tokens.text.now k l.initial.tokens → SignsSoFar l.initial.tokens.text.now k l.tokens l.negative l.kind

abbrev pub decreases-loop-kind : goal.decreases-loop-kind
decreases-loop-kind l = left l.tokens
