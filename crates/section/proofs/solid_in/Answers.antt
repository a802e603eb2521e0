-- The words counted by a chain: one for each that is no trivia's. Assumes nothing.
use Prim.Native.Nat.{◌<◌, ◌^◌}
use native.Mathlib.Omega.{arith}
use mathlib.Core.Bool.{not}
use Rattle.std.specs.List.{count_by}
use Rattle.std.proofs.Common.{rules, length}
use Rattle.std.proofs.iter.runs.Sources.{sums}
use Rattle.std.proofs.iter.runs.Made.{chains}
use Rattle.std.proofs.lemmas.List.Sums.{count_by-le-length}
use Rattle.aadl.specs.Symbols as Sym
use Rattle.aadl.specs.Tokens as T
use Rattle.section.proofs.solid_in.Goals as goal

pub sum-requires-clause-fits : goal.sum-requires-clause-fits
sum-requires-clause-fits c =
    let words = c.args.words.now in
    let long : length words < 2 ^ 64 = search rules in
    let few : count_by (λ w. not (Sym.is_trivia (T.kind_in w))) words < 2 ^ 64 = omega (arith, long, count_by-le-length (λ w. not (Sym.is_trivia (T.kind_in w))) words) in
    search (rules, chains)

pub returns : goal.returns
returns c = search (rules, sums)
