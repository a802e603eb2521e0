-- Filling words, one token at a turn (FillLaws). Assumes nothing.
use Prim.Native.Nat.{ℕ}
use mathlib.Core.List.{List}
use lib.ListN.{length, drop}
use Rattle.aadl.specs.Tokens.{token_of}
use mathlib.Core.Path.{ap, ◌∙◌}
use native.Mathlib.Omega.{arith}
use Rattle.lexer.proofs.FillLaws.{filling_more, filling_full, filling_ends, Fitting, token-fits}
use borrow.Author.Rules.{rules}
use Rattle.lexer.proofs.fill.Goals as goal

pub returns-then-count-tokens : goal.returns-then-count-tokens
returns-then-count-tokens c =
    let f = filling_full c.loop-at.invariant (search rules) c.if-count-tokens.true in
    f

pub scan_token-token-requires : goal.scan_token-token-requires
scan_token-token-requires c = omega (arith, ap length c.new-scanner.ensures)

pub token_word-requires : goal.token_word-requires
token_word-requires c =
    let fits : Fitting c.args.s.now c.loop-at.at c.scan_token-token.result = token-fits c.args.s.now c.loop-at.at c.scan_token-token.result (search rules) (c.scan_token-token.ensures ∙ ap (λ (bs : List ℕ). token_of (drop c.loop-at.at bs)) c.new-scanner.ensures) in
    let t = fits in (omega arith, omega arith)

pub loop-at-smaller : goal.loop-at-smaller
loop-at-smaller c =
    let fits : Fitting c.args.s.now c.loop-at.at c.scan_token-token.result = token-fits c.args.s.now c.loop-at.at c.scan_token-token.result (search rules) (c.scan_token-token.ensures ∙ ap (λ (bs : List ℕ). token_of (drop c.loop-at.at bs)) c.new-scanner.ensures) in
    let t = fits in omega arith

pub loop-at-preserved : goal.loop-at-preserved
loop-at-preserved c =
    let q = c.before in
    let l = q.loop-at in
    rw c.token_word.ensures (filling_more l.invariant q.scan_token-token.result (search rules)
    (omega (arith, l.invariant.room, l.invariant.same, q.if-count-tokens.false)) (q.scan_token-token.ensures ∙ ap (λ (bs : List ℕ). token_of (drop l.at bs)) q.new-scanner.ensures))

pub returns : goal.returns
returns c =
    let f = filling_ends c.loop-at.invariant (search rules) in
    f
