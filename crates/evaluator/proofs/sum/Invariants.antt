-- One operand at a turn (Summing). The measure is what remains. Assumes nothing.
use Prim.Native.Nat.{ℕ}
use Rattle.section.specs.Reaching.{Reached}
use Rattle.evaluator.proofs.Passing.{left}
use Rattle.evaluator.proofs.Summing.{Ready}
use Rattle.evaluator.proofs.sum.Given as goal

abbrev pub invariant-loop-next : goal.invariant-loop-next
invariant-loop-next l = (k : ℕ) → Reached l.initial.tokens.text.now k l.initial.tokens → Ready l.initial.tokens.text.now k l.tokens l.terms

abbrev pub decreases-loop-next : goal.decreases-loop-next
decreases-loop-next l = left l.tokens
