-- The name, the numbers, and LF (writing, WriteLaws). Assumes nothing.
use Rattle.writing.proofs.WriteLaws.{writes_then}
use Rattle.replay_lines.specs.Records.{line}
use Rattle.replay_lines.proofs.put_row.Goals as goal

pub returns : goal.returns
unfolding line
returns g c = writes_then (writes_then c.put_text.ensures c.put_numbers.ensures) c.put_byte.ensures
