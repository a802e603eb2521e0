-- A turn goes past the word where it stands; before trivia there is one more: what follows that word is found from there on (Trivia).
-- The measure is what is left. Assumes nothing.
use Prim.Native.Nat.{◌-◌}
use mathlib.Core.Path.{◌≡◌}
use lib.ListN.{length, drop}
use Rattle.parser.specs.Input.{after_one}
use Rattle.parser.specs.Parsers.{next_place}
use Rattle.parser.proofs.Tokens.next.Given as goal

abbrev pub invariant-loop-at : goal.invariant-loop-at
invariant-loop-at l = after_one l.self.text.now l.at l.byte (drop l.at l.self.words.now) ≡ next_place l.self

abbrev pub decreases-loop-at : goal.decreases-loop-at
decreases-loop-at l = length l.self.words.now - l.at
