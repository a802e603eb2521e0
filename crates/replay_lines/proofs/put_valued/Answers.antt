-- The answer with the value behind it, and the lines of its words (writing, WriteLaws). Assumes nothing.
use mathlib.Core.Path.{ap}
use mir.Syntax.{w64}
use mir.ValLaws.{to_z-of_z}
use Rattle.writing.specs.SignedDecimal.{signed_decimal}
use Rattle.writing.proofs.WriteLaws.{writes_then, writes-same}
use Rattle.replay_lines.specs.Records.{record_lines, value_lines}
use borrow.Author.Rules.{rules}
use Rattle.replay_lines.proofs.put_valued.Goals as goal

pub returns : goal.returns
unfolding record_lines value_lines
returns c =
    let value = ap signed_decimal (to_z-of_z w64 c.args.a.value (search rules)) in
    let added = writes_then c.put_byte.ensures (writes-same c.put_signed.ensures value) in
    writes_then (writes_then c.put_answer.ensures added) c.put_buffers.ensures
