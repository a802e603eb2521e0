-- The lengths added by a chain (Counted). Assumes nothing.
use Prim.Native.Nat.{◌<◌}
use native.Mathlib.Omega.{arith}
use mathlib.Core.Path.{◌≡◌, sym, ◌∙◌}
use Rattle.std.specs.List.{sum_by}
use Rattle.std.proofs.Common.{rules}
use Rattle.std.proofs.iter.runs.Sources.{sums}
use Rattle.aadl.specs.Tokens.{length_in}
use Rattle.bands.proofs.Counted.{total-sums}
use Rattle.bands.proofs.sum_of_lengths.Goals as goal

pub sum-requires-clause-fits : goal.sum-requires-clause-fits
sum-requires-clause-fits c =
    let words = c.args.words.now in
    let few : sum_by length_in words < 4294967296 = omega (arith, total-sums words) in
    search (rules, sums)

pub returns : goal.returns
returns c =
    let words = c.args.words.now in
    let added : c.sum.result ≡ sum_by length_in words = search (rules, sums) in
    added ∙ sym (total-sums words)
