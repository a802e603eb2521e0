-- The fields one after the other are the line (LineLaws). Assumes nothing.
use mathlib.Core.Path.{refl, ap, ◌∙◌}
use native.Mathlib.Omega.{arith}
use lib.ListN.{length}
use Rattle.writing.proofs.WriteLaws.{writes_then, writes-same}
use Rattle.listing_lines.proofs.LineLaws.{line-parts, line-fits}
use Rattle.listing_lines.proofs.put_line.Goals as goal

pub returns-clause-line : goal.returns-clause-line
returns-clause-line c =
    let f = c.fields_in-f.ensures in
    let b = writes_then (writes_then c.put_field.ensures c.put_byte.ensures) c.put_byte-2.ensures in
    let w = writes_then (writes_then (writes_then (writes_then b c.put_field-2.ensures) c.put_field-3.ensures) c.put_field-4.ensures) c.put_field-5.ensures in
    writes-same w (line-parts c.args.number c.args.word _ _ _ _ _ _ _ f.0 (c.from.ensures ∙ f.1) (c.from-2.ensures ∙ f.2) c.from-3.ensures c.from-4.ensures)

pub returns-clause-fits : goal.returns-clause-fits
returns-clause-fits c =
    let a = c.args in
    let r = c.fields_in-f.result in
    let f = c.fields_in-f.ensures in
    let e = line-parts a.number a.word _ _ _ a.s.line a.s.column a.s.line a.s.column f.0 f.1 f.2 refl refl in
    let fits = line-fits a.number r.letter r.kind r.last a.s.line a.s.column (omega arith) (omega arith) (omega arith) (omega arith) (omega arith) in
    omega (arith, ap length e, fits)
