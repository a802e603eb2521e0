-- The header's letters are the definition, by computation; or it is the refusal's line. Assumes nothing.
use mathlib.Core.Path.{sym, ap}
use native.Mathlib.Omega.{arith}
use lib.ListN.{length}
use Rattle.writing.proofs.WriteLaws.{writes-same}
use Rattle.listing_lines.specs.Lines.{header}
use Rattle.listing_lines.proofs.LineLaws.{first-is_header, first-is_refusal, header-fits}
use Rattle.listing_lines.proofs.put_first.Goals as goal

pub returns-then-a-eq0-clause-line : goal.returns-then-a-eq0-clause-line
unfolding header
returns-then-a-eq0-clause-line c = writes-same c.put_text.ensures (sym (first-is_header c.args.a c.if-a-eq0.true))

pub returns-then-a-eq0-clause-fits : goal.returns-then-a-eq0-clause-fits
returns-then-a-eq0-clause-fits c = omega (arith, ap length (first-is_header c.args.a c.if-a-eq0.true), header-fits)

pub returns-else-a-eq0-clause-line : goal.returns-else-a-eq0-clause-line
returns-else-a-eq0-clause-line c = writes-same c.put_refusal.ensures.line (sym (first-is_refusal c.args.a c.if-a-eq0.false))

pub returns-else-a-eq0-clause-fits : goal.returns-else-a-eq0-clause-fits
returns-else-a-eq0-clause-fits c = omega (arith, ap length (first-is_refusal c.args.a c.if-a-eq0.false), c.put_refusal.ensures.fits)
