-- The two words, and the modes in parentheses. Assumes nothing.
use mathlib.Core.Path.{refl}
use Rattle.predictive.specs.Reader.{step, read, take_two}
use Rattle.parser.proofs.Parsers.{r-same, r-seq}
use Rattle.grammar.proofs.in_modes.Goals as goal

pub returns : goal.returns
unfolding read step take_two
returns c =
    λ d. r-seq (r-same (λ n h. refl) (r-seq (c.bump.ensures d) (c.bump-2.ensures d)))
    (r-seq (c.expect.ensures d) (r-seq (c.mode_items.ensures d) (c.expect-2.ensures d)))
