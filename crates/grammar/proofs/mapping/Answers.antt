-- `=>` where it stands, and then a name where one stands. Assumes nothing.
use mathlib.Core.Path.{sym, ◌∙◌}
use Rattle.predictive.specs.Reader.{ones, first, null}
use Rattle.parser.proofs.Parsers.{r-seq, r-opt_yes, r-opt_no, r-tok_yes}
use Rattle.grammar.proofs.mapping.Goals as goal

pub returns-then-at_ident_or_kw : goal.returns-then-at_ident_or_kw
unfolding ones first null
returns-then-at_ident_or_kw c =
    let named = sym c.at_ident_or_kw.ensures ∙ c.if-at_ident_or_kw.true in
    λ d. r-opt_yes (sym c.at.ensures ∙ c.if-at.true)
    (r-seq (c.bump.ensures d) (r-opt_yes named (r-tok_yes named (c.bump_any.ensures d))))

pub returns-else-at_ident_or_kw : goal.returns-else-at_ident_or_kw
unfolding ones first null
returns-else-at_ident_or_kw c =
    λ d. r-opt_yes (sym c.at.ensures ∙ c.if-at.true)
    (r-seq (c.bump.ensures d) (r-opt_no (sym c.at_ident_or_kw.ensures ∙ c.if-at_ident_or_kw.false)))

pub returns-else-at : goal.returns-else-at
unfolding ones first null
returns-else-at c =
    λ d. r-opt_no (sym c.at.ensures ∙ c.if-at.false)
