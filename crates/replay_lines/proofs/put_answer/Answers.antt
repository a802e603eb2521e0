-- The name, and five numbers (writing, WriteLaws). Assumes nothing.
use Rattle.writing.proofs.WriteLaws.{writes_then}
use Rattle.replay_lines.specs.Records.{named_answer}
use Rattle.replay_lines.proofs.put_answer.Goals as goal

pub returns : goal.returns
unfolding named_answer
returns c = writes_then c.put_text.ensures c.put_numbers.ensures
