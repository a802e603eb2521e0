-- What the library prints of a number is its digits (DecimalLaws). Assumes nothing.
use borrow.Author.Rules.{rules}
use Rattle.writing.proofs.DecimalLaws.{decimal-printed}
use Rattle.writing.proofs.WriteLaws.{writes-same}
use Rattle.writing.proofs.Writer.put_decimal.Goals as goal

pub returns : goal.returns
returns c = writes-same c.put_integer.ensures (decimal-printed c.args.n (search rules))
