-- The answer with no field added to it, and the lines of its words (writing, WriteLaws). Assumes nothing.
use mathlib.Core.Path.{sym}
use mathlib.Core.List.{append-nil}
use Rattle.writing.proofs.WriteLaws.{writes_then, writes-same}
use Rattle.replay_lines.specs.Records.{named_answer, record_lines}
use Rattle.replay_lines.proofs.put_record.Goals as goal

pub returns : goal.returns
unfolding record_lines
returns c = writes_then (writes-same c.put_answer.ensures (sym (append-nil (named_answer c.args.a)))) c.put_buffers.ensures
