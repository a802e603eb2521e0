-- All of ASCII; else one sequence above ASCII at a turn: the first ill-formed place of the rest, counted from `at`, is that of the text. The measure
-- is what is left of the text. Assumes nothing.
-- past ASCII the first ill-formed place stays
use Prim.Native.Nat.{◌≤◌, ◌-◌, ◌+◌}
use mathlib.Core.Path.{◌≡◌}
use lib.ListN.{length, drop}
use Rattle.aadl.specs.Utf8.{ill_formed}
use Rattle.lexer.proofs.valid_up_to.Given as goal

abbrev pub invariant-loop-at : goal.invariant-loop-at
invariant-loop-at l = (l.at + ill_formed (drop l.at l.s) ≡ ill_formed l.s) × (l.at ≤ length l.s)

abbrev pub decreases-loop-at : goal.decreases-loop-at
decreases-loop-at l = length l.s - l.at
