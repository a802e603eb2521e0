-- What the library prints of a signed number is its digits, with the sign before them (DecimalLaws). Assumes nothing.
use mathlib.Core.Path.{ap, ◌∙◌}
use mir.Syntax.{w64}
use mir.ValLaws.{to_z-of_z}
use Rattle.std.specs.Fmt.{signed_decimal}
use Rattle.writing.proofs.DecimalLaws.{signed-printed}
use Rattle.writing.proofs.WriteLaws.{writes-same}
use Rattle.writing.proofs.Writer.put_signed.Goals as goal

pub returns : goal.returns
returns c = writes-same c.put_integer.ensures (ap signed_decimal (to_z-of_z w64 c.args.v c.ranges.v) ∙ signed-printed c.args.v c.ranges.v.sfits)
