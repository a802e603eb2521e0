-- Where a name stands, a loop that reads a segment, and ends behind it where no dot stands (Separated). A segment's reader may read
-- nothing; the first does not, since a name stands. Assumes nothing.
use mathlib.Core.Path.{refl, sym, ◌∙◌}
use Prim.Native.Nat.{ℕ}
use Rattle.predictive.specs.Reader.{ones, first, null}
use Rattle.predictive.proofs.Takes.{takes}
use Rattle.aadl.specs.Section as G
use Rattle.aadl.specs.Kinds.{DOT}
use Rattle.parser.proofs.Parsers.{r-opt_yes, r-opt_first_sure, r-opt_no, due_first, due_again, due_done, due_less}
use Rattle.operands.proofs.segments.Goals as goal

pub loop-p-init : goal.loop-p-init
loop-p-init c = λ d. due_first

pub returns-then-not-at : goal.returns-then-not-at
unfolding ones first null
returns-then-not-at c =
    let s = sym c.at.ensures ∙ c.if-at.true in
    λ d. r-opt_yes s
    (r-opt_first_sure s
    (due_done (c.loop-p.invariant d) (c.segment.ensures d) (sym c.at-in-loop-p.ensures ∙ c.if-not-at.true)))

pub loop-p-smaller : goal.loop-p-smaller
unfolding ones first takes
loop-p-smaller c =
    let d : ℕ = 0 in due_less {S = G.begun DOT} refl (c.segment.ensures d) (sym c.at-in-loop-p.ensures ∙ c.if-not-at.false)
    (c.bump.ensures d)

pub loop-p-preserved : goal.loop-p-preserved
unfolding ones first null takes
loop-p-preserved c =
    λ d. due_again refl (c.loop-p.invariant d) (c.segment.ensures d) (sym c.at-in-loop-p.ensures ∙ c.if-not-at.false)
    (c.bump.ensures d)

pub returns : goal.returns
unfolding ones first null
returns c =
    λ d. r-opt_no (sym c.at.ensures ∙ c.if-at.false)
