-- The token where it stands, else nothing. Assumes nothing.
use mathlib.Core.Path.{sym, ◌∙◌}
use Rattle.predictive.specs.Reader.{ones, first}
use Rattle.parser.proofs.Parsers.{r-opt_yes, r-opt_no, r-tok_yes, r-taken}
use Rattle.parser.proofs.Parser.eat.Goals as goal

pub returns-then-at : goal.returns-then-at
unfolding ones first
returns-then-at c = λ d o.
    let e = sym c.at.ensures ∙ c.if-at.true in
    r-opt_yes e (r-tok_yes e (r-taken c.requires (sym c.at.ensures ∙ c.if-at.true) c.take.ensures))

pub returns-else-at : goal.returns-else-at
unfolding ones first
returns-else-at c = λ d o. r-opt_no (sym c.at.ensures ∙ c.if-at.false)
