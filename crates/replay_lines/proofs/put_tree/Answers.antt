-- The answer with the number of records, the lines of its words, and those of the records' words: a number of records past the lent words uses all of
-- them, as the number of the lent ones does (CountLaws). Assumes nothing.
use Rattle.writing.proofs.WriteLaws.{writes_then, writes-same}
use Rattle.replay_lines.specs.Records.{record_lines, tree_lines}
use Rattle.replay_lines.proofs.CountLaws.{more_within}
use Rattle.replay_lines.proofs.put_tree.Goals as goal

pub returns : goal.returns
unfolding record_lines tree_lines
returns c =
    let x = c.args in
    let m = more_within x.a.answer.number x.a.records c.min-used.result x.records.now c.min-used.ensures in
    writes_then (writes_then (writes_then c.put_answer.ensures c.put_number.ensures) c.put_buffers.ensures) (writes-same c.put_more.ensures m)
