-- The last byte that belongs to no word is where the last gap is (WordLaws). Assumes nothing.
use mathlib.Core.Path.{◌∙◌}
use Rattle.scan.proofs.WordLaws.{found-gap}
use Rattle.scan.proofs.word_bound.Goals as goal

pub returns : goal.returns
returns c = c.unwrap_or.ensures ∙ found-gap c.args.s.now _ c.last_outside.ensures
