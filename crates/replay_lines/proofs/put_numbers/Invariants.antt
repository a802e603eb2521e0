-- Number after number (SpacedLaws): the first are written. Assumes nothing.
use lib.ListN.{take}
use mathlib.Core.List.{map}
use Rattle.writing.specs.Written.{Writes}
use Rattle.replay_lines.specs.Records.{spaced}
use Rattle.replay_lines.proofs.put_numbers.Given as goal

abbrev pub invariant-loop-n : goal.invariant-loop-n
invariant-loop-n g l = Writes l.initial.w (spaced (map g.N.Whole.value (take l.n-index l.numbers))) l.w
