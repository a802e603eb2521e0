-- Before `i` the numbers are written, as far as they are lent (Telling). Assumes nothing.
use mathlib.Core.Path.{◌≡◌}
use lib.ListN.{take}
use Rattle.lexer.specs.Filling.{write}
use Rattle.capi.proofs.tell.Given as goal

abbrev pub invariant-loop-i : goal.invariant-loop-i
invariant-loop-i l = l.lent ≡ write (take l.i l.numbers) l.initial.lent
