-- A loop that reads a path, and ends behind it where no comma stands (Separated). Assumes nothing.
use mathlib.Core.Path.{refl, sym, ◌∙◌}
use Prim.Native.Nat.{ℕ}
use Rattle.predictive.specs.Reader.{ones, first, null}
use Rattle.predictive.proofs.Takes.{takes}
use Rattle.aadl.specs.Section as G
use Rattle.aadl.specs.Kinds.{COMMA}
use Rattle.parser.proofs.Parsers.{due_first, due_again, due_done, due_less}
use Rattle.properties.proofs.paths.Goals as goal

pub loop-p-init : goal.loop-p-init
loop-p-init c = λ d. due_first

pub returns-then-not-at : goal.returns-then-not-at
unfolding ones first null
returns-then-not-at c =
    λ d. due_done (c.loop-p.invariant d) (c.containment_path.ensures d) (sym c.at.ensures ∙ c.if-not-at.true)

pub loop-p-smaller : goal.loop-p-smaller
unfolding ones first takes
loop-p-smaller c =
    let d : ℕ = 0 in due_less {S = G.begun COMMA} refl (c.containment_path.ensures d) (sym c.at.ensures ∙ c.if-not-at.false)
    (c.bump.ensures d)

pub loop-p-preserved : goal.loop-p-preserved
unfolding ones first null takes
loop-p-preserved c =
    λ d. due_again refl (c.loop-p.invariant d) (c.containment_path.ensures d) (sym c.at.ensures ∙ c.if-not-at.false)
    (c.bump.ensures d)
