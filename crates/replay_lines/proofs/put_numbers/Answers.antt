-- Number after number (SpacedLaws): the first are written. Assumes nothing.
use Rattle.writing.proofs.WriteLaws.{writes_none}
use Rattle.replay_lines.proofs.SpacedLaws.{spaced-more, spaced-all}
use Rattle.replay_lines.proofs.put_numbers.Goals as goal

pub loop-n-init : goal.loop-n-init
loop-n-init g c = writes_none c.args.w.now

pub loop-n-preserved : goal.loop-n-preserved
loop-n-preserved g c = spaced-more g.N.Whole.value c.args.numbers.now c.loop-n.n-index _ c.n-item.result c.loop-n-test.true c.n-item.is c.long.ensures c.loop-n.invariant c.put_number.ensures

pub returns : goal.returns
returns g c = spaced-all g.N.Whole.value c.args.numbers.now c.loop-n.n-index c.loop-n-test.false c.loop-n.invariant
