-- A loop over subscripts (Loops). Assumes nothing.
use mathlib.Core.Path.{refl, sym, ◌∙◌}
use Prim.Native.Nat.{ℕ}
use Rattle.predictive.specs.Reader.{ones, first, null}
use Rattle.predictive.proofs.Takes.{takes}
use Rattle.aadl.specs.Section as G
use Rattle.parser.proofs.Parsers.{r-seq, w-holds, w-again, w-less, w-done}
use Rattle.operands.proofs.array_subscripts.Goals as goal

pub loop-p-init : goal.loop-p-init
loop-p-init c = λ d. w-holds

pub loop-p-smaller : goal.loop-p-smaller
unfolding ones first null takes
loop-p-smaller c =
    let d : ℕ = 0 in w-less {P = G.subscript} refl (sym c.at.ensures ∙ c.loop-p-test.true)
    (r-seq (c.bump.ensures d) (r-seq (c.index.ensures d) (c.expect.ensures d)))

pub loop-p-preserved : goal.loop-p-preserved
unfolding ones first null takes
loop-p-preserved c =
    λ d. w-again refl (c.loop-p.invariant d) (sym c.at.ensures ∙ c.loop-p-test.true)
    (r-seq (c.bump.ensures d) (r-seq (c.index.ensures d) (c.expect.ensures d)))

pub returns : goal.returns
unfolding ones first null
returns c =
    λ d. w-done (c.loop-p.invariant d) (sym c.at.ensures ∙ c.loop-p-test.false)
