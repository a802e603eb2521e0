-- `properties`, then `none` and `;`, or a loop over associations (Loops), in a node. Assumes nothing.
use mathlib.Core.Path.{refl, sym, ◌∙◌}
use Rattle.predictive.specs.Reader.{ones, first, null, twos}
use Rattle.predictive.proofs.Takes.{takes}
use Rattle.aadl.specs.Section as G
use Rattle.predictive.proofs.Tests.{◌and◌}
use Rattle.aadl.specs.Section.{names, keywords}
use Rattle.parser.proofs.Parsers.{r-seq, r-left, r-right, w-holds, w-less, w-done}
use Rattle.parser.proofs.Levels.{seq-at, inside-at, again_at, same}
use Rattle.properties.proofs.property_section.Goals as goal

pub returns-then-at : goal.returns-then-at
unfolding ones first null
returns-then-at c =
    inside-at same c.start-m.ensures
    (seq-at same (c.bump.ensures _)
    (r-left (sym c.at.ensures ∙ c.if-at.true) (r-seq (c.bump-then-at.ensures _) (c.expect.ensures _))))
    c.complete.ensures

pub loop-p-init : goal.loop-p-init
loop-p-init c = w-holds

pub loop-p-smaller : goal.loop-p-smaller
unfolding ones first null takes names keywords twos ◌and◌
loop-p-smaller c =
    w-less {P = G.read_association} refl (sym (c.at_name.ensures 3) ∙ c.loop-p-test.true)
    c.property_association.ensures

pub loop-p-preserved : goal.loop-p-preserved
unfolding ones first null takes names keywords twos ◌and◌
loop-p-preserved c =
    again_at same refl c.loop-p.invariant (sym (c.at_name.ensures 3) ∙ c.loop-p-test.true)
    c.property_association.ensures

pub returns : goal.returns
unfolding ones first null names keywords twos
returns c =
    inside-at same c.start-m.ensures
    (seq-at same (c.bump.ensures _)
    (r-right (sym c.at.ensures ∙ c.if-at.false) (w-done c.loop-p.invariant (sym (c.at_name.ensures 3) ∙ c.loop-p-test.false))))
    c.complete-2.ensures
