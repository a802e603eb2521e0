-- A walk to the place, one byte at a turn (SpotLaws). Assumes nothing.
use Rattle.positions.proofs.SpotLaws.{Walking}
use Rattle.positions.proofs.spot_at.Given as goal

abbrev pub invariant-loop-b : goal.invariant-loop-b
invariant-loop-b l = Walking l.b-items l.initial.line l.initial.column l.b-index l.line l.column
