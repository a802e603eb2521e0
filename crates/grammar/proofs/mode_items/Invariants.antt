-- The first mode where a name stands, and a loop over those after it (Loops). Assumes nothing.
use Prim.Native.Nat.{ℕ}
use Rattle.predictive.specs.Grammar.{free, seq, opt}
use Rattle.aadl.specs.Section as G
use Rattle.aadl.specs.Kinds.{COMMA}
use Rattle.parser.proofs.Parsers.{Turning, μ}
use Rattle.grammar.proofs.mode_items.Given as goal

abbrev pub invariant-loop-p : goal.invariant-loop-p
invariant-loop-p l = (d : ℕ) → Turning d (seq (G.begun COMMA) (opt free G.mode)) l.initial.p l.p

abbrev pub decreases-loop-p : goal.decreases-loop-p
decreases-loop-p l = μ l.p
