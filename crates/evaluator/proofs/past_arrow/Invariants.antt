-- One token at a turn (Passing). The measure is what remains. Assumes nothing.
use Prim.Native.Nat.{ℕ}
use Rattle.section.specs.Reaching.{Reached}
use Rattle.evaluator.proofs.Passing.{left, BeforeArrow}
use Rattle.evaluator.proofs.past_arrow.Given as goal

abbrev pub invariant-loop-tokens : goal.invariant-loop-tokens
invariant-loop-tokens l = (k : ℕ) → Reached l.initial.tokens.text.now k l.initial.tokens → BeforeArrow l.initial.tokens.text.now k l.tokens

abbrev pub decreases-loop-tokens : goal.decreases-loop-tokens
decreases-loop-tokens l = left l.tokens
