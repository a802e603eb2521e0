-- The name, and a loop over qualifiers (Loops), in a node. Assumes nothing.
use mathlib.Core.Path.{refl, sym, ◌∙◌}
use Prim.Native.Nat.{ℕ}
use Rattle.predictive.specs.Reader.{ones, first, null}
use Rattle.predictive.proofs.Takes.{takes}
use Rattle.aadl.specs.Section as G
use Rattle.parser.proofs.Parsers.{r-seq, n_inside, w-holds, w-again, w-less, w-done}
use Rattle.operands.proofs.named_value.Goals as goal

pub loop-p-init : goal.loop-p-init
loop-p-init c = λ d. w-holds

pub loop-p-smaller : goal.loop-p-smaller
unfolding ones first null takes
loop-p-smaller c =
    let d : ℕ = 0 in w-less {P = G.qualified} refl (sym c.at.ensures ∙ c.loop-p-test.true)
    (r-seq (c.bump-in-loop-p.ensures d) (c.name_after.ensures d))

pub loop-p-preserved : goal.loop-p-preserved
unfolding ones first null takes
loop-p-preserved c =
    λ d. w-again refl (c.loop-p.invariant d) (sym c.at.ensures ∙ c.loop-p-test.true)
    (r-seq (c.bump-in-loop-p.ensures d) (c.name_after.ensures d))

pub returns : goal.returns
unfolding ones first null
returns c =
    λ d. n_inside c.start-m.ensures
    (r-seq (c.bump.ensures d) (w-done (c.loop-p.invariant d) (sym c.at.ensures ∙ c.loop-p-test.false))) c.complete.ensures
