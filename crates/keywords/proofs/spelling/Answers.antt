-- A row's word stands in the letters of all from its start on (Columns). Assumes nothing.
use Prim.Native.Nat.{◌+◌, ◌-◌}
use mathlib.Core.Path.{◌≡◌, ◌∙◌}
use native.Mathlib.Omega.{arith}
use lib.ListN.{length, take, drop}
use Rattle.aadl.specs.Words.{words, table, row}
use Rattle.keywords.specs.Tables.{letters_before, word_letters}
use Rattle.keywords.proofs.Columns.{start-at, length_at, word-in, word_at}
use Rattle.keywords.proofs.spelling.Goals as goal

pub slice_bounds-result-end : goal.slice_bounds-result-end
unfolding words table
slice_bounds-result-end c =
    let i = c.args.i in
    let start : c.from-from.result ≡ letters_before i = c.from-from.ensures ∙ start-at i c.requires in
    let long : c.from.result ≡ length (row i).word = c.from.ensures ∙ length_at i c.requires in
    omega (arith, start, long, word-in i c.requires)

pub returns : goal.returns
unfolding words table
returns c =
    let i = c.args.i in
    let start : c.from-from.result ≡ letters_before i = c.from-from.ensures ∙ start-at i c.requires in
    let long : c.from-from.result + c.from.result - c.from-from.result ≡ length (row i).word =
    omega (arith, c.from.ensures ∙ length_at i c.requires) in
    (λ j. take (long j) (drop (start j) word_letters)) ∙ word_at i c.requires
