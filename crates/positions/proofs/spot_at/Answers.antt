-- One byte more of a walk (SpotLaws). Assumes nothing.
use Rattle.positions.proofs.SpotLaws.{walking_more}
use borrow.Author.Rules.{rules}
use Rattle.positions.proofs.spot_at.Goals as goal

pub loop-b-preserved : goal.loop-b-preserved
loop-b-preserved c = walking_more c.loop-b.invariant _ _ (search rules) c.line_behind-line.ensures c.column_behind-column.ensures
