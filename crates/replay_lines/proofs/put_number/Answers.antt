-- One byte, and a number (writing, WriteLaws). Assumes nothing.
use Rattle.writing.proofs.WriteLaws.{writes_then}
use Rattle.replay_lines.proofs.put_number.Goals as goal

pub returns : goal.returns
returns c = writes_then c.put_byte.ensures c.put_decimal.ensures
