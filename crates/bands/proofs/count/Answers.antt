-- The words counted by a chain (Counted). Assumes nothing.
use Prim.Native.Nat.{◌<◌, ◌^◌}
use native.Mathlib.Omega.{arith}
use mathlib.Core.Path.{◌≡◌, sym, ◌∙◌}
use Rattle.std.specs.List.{count_by}
use Rattle.std.proofs.Common.{rules}
use Rattle.std.proofs.iter.runs.Sources.{sums}
use Rattle.std.proofs.iter.runs.Made.{chains}
use Rattle.std.proofs.lemmas.List.Sums.{count_by-le-length}
use Rattle.bands.specs.Bands.{within_band}
use Rattle.bands.proofs.Counted.{tally-counts}
use Rattle.bands.proofs.count.Goals as goal

pub sum-n-requires-clause-fits : goal.sum-n-requires-clause-fits
sum-n-requires-clause-fits c =
    let band = c.args.band.now in
    let words = c.args.words.now in
    let few : count_by (within_band band) words < 2 ^ 32 = omega (arith, count_by-le-length (within_band band) words) in
    search (rules, chains)

pub returns : goal.returns
returns c =
    let band = c.args.band.now in
    let words = c.args.words.now in
    let counted : c.sum-n.result ≡ count_by (within_band band) words = search (rules, sums) in
    counted ∙ sym (tally-counts band words)
