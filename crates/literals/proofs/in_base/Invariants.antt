-- One byte at a turn: an underscore is passed, a digit below the base makes the number longer, any other digit ends the reading (Capping).
-- Assumes nothing.
use mathlib.Core.Path.{◌≡◌}
use lib.ListN.{drop}
use Rattle.aadl.specs.Values.{digits, in_base}
use Rattle.literals.specs.Capped.{capped}
use Rattle.literals.proofs.Capping.{goes_on}
use Rattle.literals.proofs.in_base.Given as goal

abbrev pub invariant-loop-b : goal.invariant-loop-b
invariant-loop-b l = goes_on l.base l.number (digits (drop l.b-index l.part)) ≡ capped (in_base l.base (digits l.part))
