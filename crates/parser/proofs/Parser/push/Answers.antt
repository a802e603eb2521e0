-- A parser that stopped stays as it is (Pushing). Assumes nothing.
use mathlib.Core.Path.{sym, ◌∙◌}
use Rattle.parser.proofs.Pushing.{push-stopped, push-goes}
use Rattle.parser.proofs.Parsers.{same}
use Rattle.parser.proofs.Parser.push.Goals as goal

pub returns-then-self-eq0 : goal.returns-then-self-eq0
returns-then-self-eq0 c = λ e w.
    let x = c.push_or_stop.ensures e w in
    record { did = record { ran = x.did.ran ∙ sym (push-goes e _ c.if-self-eq0.true) }; same = x.same }

pub returns-else-self-eq0 : goal.returns-else-self-eq0
returns-else-self-eq0 c = λ e w. record { did = record { ran = sym (push-stopped e _ c.if-self-eq0.false) }; same = same }
