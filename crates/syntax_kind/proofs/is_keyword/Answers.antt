-- `syntax_kind::is_keyword` meets its contract: the keywords are a range. Assumes nothing.
use Rattle.syntax_kind.proofs.KindSets.{keywords-range}
use Rattle.syntax_kind.proofs.is_keyword.Goals as goal

pub returns : goal.returns
returns c = keywords-range c.args.kind
