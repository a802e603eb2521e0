-- After a refusal the zeros count, else what is kept behind the used words (CountLaws). Assumes nothing.
use mathlib.Core.Path.{◌∙◌}
use Rattle.replay_lines.proofs.CountLaws.{rest-refused, rest-kept}
use Rattle.replay_lines.proofs.rest_of.Goals as goal

pub returns-then-number-ne0 : goal.returns-then-number-ne0
returns-then-number-ne0 c =
    let a = c.args in
    c.count_of.ensures ∙ rest-refused a.number a.used a.words.now c.if-number-ne0.true

pub returns : goal.returns
returns c =
    let a = c.args in
    c.count_of-2.ensures ∙ rest-kept a.number a.used c.min-from.result a.words.now c.if-number-ne0.false c.min-from.ensures
