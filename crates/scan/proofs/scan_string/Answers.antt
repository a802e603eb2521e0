-- What belongs to the string behind its opening quote, and the quote (StringLaws). Assumes nothing.
use Prim.Native.Nat.{◌+◌}
use mathlib.Core.Path.{ap, ◌∙◌}
use mathlib.Core.Bool.{false}
use native.Mathlib.Omega.{arith}
use lib.ListN.{drop, length-drop}
use Rattle.aadl.specs.declared.Quoted.{Quoted}
use Rattle.aadl.proofs.TokenBounds.{quoted-within}
use Rattle.scan.proofs.FirstByte.{string-token}
use Rattle.scan.proofs.StringLaws.{with_quote}
use Rattle.scan.proofs.scan_string.Goals as goal

-- the whole is within the text
pub overflow_add-result : goal.overflow_add-result
overflow_add-result c =
    let q = c.before in
    let from = drop (q.args.at + 1) q.args.s.now in
    let n = ap (λ (r : Quoted). r.len) c.quoted-q.ensures in
    record { fits = omega (arith, n, quoted-within false from, length-drop (q.args.at + 1) q.args.s.now, q.requires.inside, q.well_formed.0) }

pub returns : goal.returns
returns c =
    let q = c.before in
    let r = c.quoted-q in
    with_quote q.args.s.now q.args.at r.result r.ensures ∙ string-token q.args.s.now q.args.at q.requires
