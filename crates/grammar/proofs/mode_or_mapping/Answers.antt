-- A name where one stands, and what it is mapped to. Assumes nothing.
use mathlib.Core.Path.{sym, ◌∙◌}
use mathlib.Core.List.{append-nil}
use Rattle.predictive.specs.Reader.{ones, first, null}
use Rattle.aadl.specs.Section as G
use Rattle.parser.proofs.Parsers.{r-seq, r-opt_yes, r-opt_no, r-tok_yes}
use Rattle.grammar.proofs.mode_or_mapping.Goals as goal

pub returns-then-at_ident_or_kw : goal.returns-then-at_ident_or_kw
unfolding ones first null
returns-then-at_ident_or_kw c =
    let named = sym c.at_ident_or_kw.ensures ∙ c.if-at_ident_or_kw.true in
    λ d. r-opt_yes (rw (append-nil (ones G.names)) named) (r-seq (r-tok_yes named (c.bump_any.ensures d)) (c.mapping.ensures d))

pub returns-else-at_ident_or_kw : goal.returns-else-at_ident_or_kw
unfolding ones first null
returns-else-at_ident_or_kw c =
    λ d. r-opt_no (rw (append-nil (ones G.names)) (sym c.at_ident_or_kw.ensures ∙ c.if-at_ident_or_kw.false))
