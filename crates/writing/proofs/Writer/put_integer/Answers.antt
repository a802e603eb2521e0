-- The text of the number is put (WriteLaws). Assumes nothing.
use mathlib.Core.Path.{◌∙◌}
use Rattle.writing.proofs.WriteLaws.{writes-same}
use Rattle.writing.proofs.Writer.put_integer.Goals as goal

pub returns : goal.returns
returns g c = writes-same c.put_text.ensures (c.as_bytes.ensures.value ∙ c.format.ensures.text)
