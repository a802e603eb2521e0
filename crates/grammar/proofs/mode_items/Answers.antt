-- The first mode where a name stands, and a loop over those after it (Loops). Assumes nothing.
use mathlib.Core.Path.{refl, sym, ◌∙◌}
use mathlib.Core.List.{append-nil}
use Rattle.predictive.specs.Grammar.{free, seq, opt}
use Rattle.predictive.specs.Reader.{ones, first, null}
use Rattle.predictive.proofs.Takes.{takes}
use Rattle.aadl.specs.Section as G
use Rattle.aadl.specs.Kinds.{COMMA}
use Rattle.parser.proofs.Parsers.{r-seq, r-opt_yes, r-opt_no, r-opt_sure, w-holds, w-again, w-less, w-done}
use Rattle.grammar.proofs.mode_items.Goals as goal

pub loop-p-init : goal.loop-p-init
loop-p-init c = λ d. w-holds

pub loop-p-smaller : goal.loop-p-smaller
unfolding ones first null takes
loop-p-smaller c =
    w-less {P = seq (G.begun COMMA) (opt free G.mode)} refl (sym c.at.ensures ∙ c.loop-p-test.true)
    (r-seq (c.bump.ensures 0) (c.mode_or_mapping-in-loop-p.ensures 0))

pub loop-p-preserved : goal.loop-p-preserved
unfolding ones first null takes
loop-p-preserved c =
    λ d. w-again refl (c.loop-p.invariant d) (sym c.at.ensures ∙ c.loop-p-test.true)
    (r-seq (c.bump.ensures d) (c.mode_or_mapping-in-loop-p.ensures d))

pub returns-after-loop-p : goal.returns-after-loop-p
unfolding ones first null
returns-after-loop-p c =
    let named = sym c.at_ident_or_kw.ensures ∙ c.if-at_ident_or_kw.true in
    λ d. r-opt_yes (rw (append-nil (ones G.names), append-nil (ones G.names)) named)
    (r-seq (r-opt_sure (rw (append-nil (ones G.names)) named) (c.mode_or_mapping.ensures d))
    (w-done (c.loop-p.invariant d) (sym c.at.ensures ∙ c.loop-p-test.false)))

pub returns-else-at_ident_or_kw : goal.returns-else-at_ident_or_kw
unfolding ones first null
returns-else-at_ident_or_kw c =
    λ d. r-opt_no (rw (append-nil (ones G.names), append-nil (ones G.names)) (sym c.at_ident_or_kw.ensures ∙ c.if-at_ident_or_kw.false))
