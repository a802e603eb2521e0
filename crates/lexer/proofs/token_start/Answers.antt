-- The first words are added up, up to the cap (CappedTotal). Assumes nothing.
use Prim.Native.Nat.{ℕ, ◌+◌, min}
use mathlib.Core.Path.{ap, ◌∙◌}
use lib.ListN.{take}
use Rattle.lexer.proofs.CappedTotal.{capped_next}
use Rattle.lexer.proofs.token_start.Goals as goal

pub loop-w-preserved : goal.loop-w-preserved
loop-w-preserved c =
    let l = c.loop-w in
    let first = take c.min.result c.args.words.now in
    let more = c.add_capped-at.ensures ∙ ap (λ (n : ℕ). min (l.at + n) c.args.cap) c.length_in.ensures in
    capped_next c.args.cap l.at c.add_capped-at.result l.w-index first (c.loop-w-test.true) l.invariant more
