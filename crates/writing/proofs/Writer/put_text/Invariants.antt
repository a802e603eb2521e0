-- Byte after byte (WriteLaws): the text's first bytes are written. Assumes nothing.
use lib.ListN.{take}
use Rattle.writing.specs.Written.{Writes}
use Rattle.writing.proofs.Writer.put_text.Given as goal

abbrev pub invariant-loop-b : goal.invariant-loop-b
invariant-loop-b l = Writes l.initial.self (take l.b-index l.text) l.self
