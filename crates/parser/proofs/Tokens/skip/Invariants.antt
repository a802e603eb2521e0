-- Past one trivia word at a turn: what remains is skipped to the same place (Trivia). The measure is what is left. Assumes nothing.
use Prim.Native.Nat.{◌-◌}
use mathlib.Core.Path.{◌≡◌}
use lib.ListN.{length, drop}
use Rattle.parser.specs.Input.{skip}
use Rattle.parser.proofs.Tokens.skip.Given as goal

abbrev pub invariant-loop-at : goal.invariant-loop-at
invariant-loop-at l =
    skip l.self.text.now l.at l.byte (drop l.at l.self.words.now) ≡ skip l.self.text.now l.self.at l.self.byte (drop l.self.at l.self.words.now)

abbrev pub decreases-loop-at : goal.decreases-loop-at
decreases-loop-at l = length l.self.words.now - l.at
