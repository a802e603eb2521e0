-- The section is read where `properties` stands, and the parser stops with 4 where it does not. Assumes nothing.
use mathlib.Core.Path.{sym, ◌∙◌}
use Rattle.predictive.proofs.Tests.{never}
use Rattle.section.proofs.read.Goals as goal

pub returns-then-at : goal.returns-then-at
returns-then-at c =
    record {
      read = λ e. c.property_section.ensures;
      refused_4 = λ e. never (sym e ∙ sym c.at.ensures ∙ c.if-at.true);
      same = c.property_section.ensures.same;
    }

pub returns-else-at : goal.returns-else-at
returns-else-at c =
    record {
      read = λ e. never (sym (sym c.at.ensures ∙ c.if-at.false) ∙ e);
      refused_4 = λ e. c.stop.ensures;
      same = c.stop.ensures.same;
    }
