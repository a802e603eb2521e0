-- The name, and the fields after it (LineLaws). Assumes nothing.
use mathlib.Core.Path.{ap, ◌∙◌}
use Prim.Native.Nat.{ℕ}
use native.Mathlib.Omega.{arith}
use lib.ListN.{length}
use Rattle.writing.proofs.WriteLaws.{writes_then, writes-same}
use Rattle.listing_lines.proofs.LineLaws.{refusal-fields, refusal-parts, refusal-fits}
use borrow.Author.Rules.{rules}
use Rattle.listing_lines.proofs.put_refusal.Goals as goal

pub returns-clause-line : goal.returns-clause-line
returns-clause-line c =
    let w = writes_then (writes_then c.put_text.ensures c.put_field.ensures) c.put_field-2.ensures in
    writes-same w (ap (λ (n : ℕ). refusal-fields n c.args.place) c.from.ensures ∙ refusal-parts c.args.number c.args.place)

pub returns-clause-fits : goal.returns-clause-fits
returns-clause-fits c =
    let a = c.args in
    omega (arith, ap length (refusal-parts a.number a.place), refusal-fits a.number a.place (search rules) (search rules))
