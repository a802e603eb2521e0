-- By induction over the bytes. Assumes nothing.
use mathlib.Core.Path.{◌∙◌}
use Rattle.classes.proofs.Chunks.{any_has}
use Rattle.classes.proofs.has_byte.Goals as goal

pub returns : goal.returns
returns c = c.contains.ensures.value ∙ any_has c.args.x c.args.s.now
