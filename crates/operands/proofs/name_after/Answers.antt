-- A name where one stands. Assumes nothing.
use mathlib.Core.Path.{sym, ◌∙◌}
use Rattle.predictive.specs.Reader.{first}
use Rattle.parser.proofs.Parsers.{r-opt_yes, r-opt_no, r-tok_yes}
use Rattle.operands.proofs.name_after.Goals as goal

pub returns-then-at_ident_or_kw : goal.returns-then-at_ident_or_kw
unfolding first
returns-then-at_ident_or_kw c =
    λ d. r-opt_yes (sym c.at_ident_or_kw.ensures ∙ c.if-at_ident_or_kw.true)
    (r-tok_yes (sym c.at_ident_or_kw.ensures ∙ c.if-at_ident_or_kw.true) (c.bump_any.ensures d))

pub returns-else-at_ident_or_kw : goal.returns-else-at_ident_or_kw
unfolding first
returns-else-at_ident_or_kw c =
    λ d. r-opt_no (sym c.at_ident_or_kw.ensures ∙ c.if-at_ident_or_kw.false)
