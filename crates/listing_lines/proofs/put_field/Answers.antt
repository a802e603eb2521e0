-- A number, and one byte more (writing, WriteLaws). Assumes nothing.
use Rattle.writing.proofs.WriteLaws.{writes_then}
use Rattle.listing_lines.proofs.put_field.Goals as goal

pub returns : goal.returns
returns c = writes_then c.put_decimal.ensures c.put_byte.ensures
