-- A loop that reads a value, and ends behind it where no comma stands (Separated). Assumes nothing.
use mathlib.Core.Path.{refl, sym, ◌∙◌}
use Rattle.predictive.specs.Reader.{ones, first, null}
use Rattle.predictive.proofs.Takes.{takes}
use Rattle.aadl.specs.Section as G
use Rattle.aadl.specs.Kinds.{COMMA}
use Rattle.parser.proofs.Parsers.{at_level, due_first, due_again, due_done, due_less, due-left}
use Rattle.properties.proofs.property_values.Goals as goal

pub loop-p-init : goal.loop-p-init
loop-p-init c = due_first

pub returns-then-not-at : goal.returns-then-not-at
unfolding ones first null
returns-then-not-at c =
    let due = c.loop-p.invariant in
    due_done due (at_level (due-left due) c.property_value.ensures) (sym c.at.ensures ∙ c.if-not-at.true)

pub loop-p-smaller : goal.loop-p-smaller
unfolding ones first takes
loop-p-smaller c =
    due_less {S = G.begun COMMA} refl c.property_value.ensures (sym c.at.ensures ∙ c.if-not-at.false) (c.bump.ensures _)

pub loop-p-preserved : goal.loop-p-preserved
unfolding ones first null takes
loop-p-preserved c =
    let due = c.loop-p.invariant in
    due_again refl due (at_level (due-left due) c.property_value.ensures) (sym c.at.ensures ∙ c.if-not-at.false) (c.bump.ensures _)
