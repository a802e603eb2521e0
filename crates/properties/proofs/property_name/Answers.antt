-- The name where one stands, else the message (PropertyNames). Assumes nothing.
use mathlib.Core.Path.{sym, ◌∙◌}
use Rattle.properties.proofs.PropertyNames.{r-name_yes, r-name_no}
use Rattle.properties.proofs.property_name.Goals as goal

pub returns-then-at_name : goal.returns-then-at_name
returns-then-at_name c =
    let m = c.args.message in λ d. r-name_yes (sym (c.at_name.ensures m) ∙ c.if-at_name.true) (c.bump_any.ensures d)

pub returns-else-at_name : goal.returns-else-at_name
returns-else-at_name c =
    let m = c.args.message in λ d. r-name_no (sym (c.at_name.ensures m) ∙ c.if-at_name.false)
    (rw c.from.ensures at c.error.ensures)
