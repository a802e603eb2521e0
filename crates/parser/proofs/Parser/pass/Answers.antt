-- The cases of `pass` (Pushing). Assumes nothing.
use mathlib.Core.Path.{refl, sym, ap, ◌∙◌}
use Rattle.parser.specs.Parsers.{source}
use Rattle.parser.proofs.Pushing.{pass-stopped, pass-goes}
use Rattle.parser.proofs.Parsers.{same, passes}
use Rattle.parser.proofs.Parser.pass.Goals as goal

pub returns-then-self-eq0 : goal.returns-then-self-eq0
returns-then-self-eq0 c = passes c.args.self.now c.if-self-eq0.true c.pass.ensures c.one_more-self.ensures

pub returns-else-self-eq0 : goal.returns-else-self-eq0
returns-else-self-eq0 c = record { did = record { ran = sym (pass-stopped _ _ c.if-self-eq0.false) }; same = same }
