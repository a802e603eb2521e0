-- One token at a turn (Passing). The measure is what remains. Assumes nothing.
use Prim.Native.Nat.{ℕ, suc}
use native.Mathlib.Omega.{arith}
use mathlib.Core.Path.{◌≡◌, sym, ap, ◌∙◌}
use mathlib.Core.Bool.{◌||◌}
use lib.ListN.{length}
use lib.Dec.{eqb}
use Rattle.aadl.specs.Kinds.{FAT_ARROW, PLUS_ARROW, #◌}
use Rattle.section.proofs.Reaching.{reached-next}
use Rattle.evaluator.proofs.Ahead.{reached-ahead, reached-rest, reached-some}
use Rattle.evaluator.proofs.Passing.{arrow-here, no_arrow_here, no_arrow}
use Rattle.evaluator.proofs.past_arrow.Goals as goal

-- the test of the arrow, of the kind that was seen and of the symbol
same-test : (x y : ℕ) → x ≡ y → (eqb y (# FAT_ARROW) || eqb y (# PLUS_ARROW)) ≡ (eqb x (# FAT_ARROW) || eqb x (# PLUS_ARROW))
same-test x y e = ap (λ (v : ℕ). eqb v (# FAT_ARROW) || eqb v (# PLUS_ARROW)) (sym e)

pub returns-then-kind : goal.returns-then-kind
returns-then-kind c = λ k y.
    let text = c.args.tokens.now.text.now in
    let t = c.loop-tokens.tokens in
    let r = c.pass.new.self in
    let x = c.loop-tokens.invariant k y in
    arrow-here text k t x c.loop-tokens-test.true r (reached-next text x.to t x.stands r c.pass.ensures)
    (same-test _ _ (reached-ahead text x.to t x.stands _ c.current-kind.ensures) ∙ c.if-kind.true)

pub loop-tokens-smaller : goal.loop-tokens-smaller
loop-tokens-smaller c =
    let text = c.args.tokens.now.text.now in
    let t = c.loop-tokens.tokens in
    let r = c.pass.new.self in
    let x = c.loop-tokens.invariant c.requires.0 c.requires.1 in
    omega (
      arith,
      ap length (reached-rest text x.to t x.stands),
      ap length (reached-rest text (suc x.to) r (reached-next text x.to t x.stands r c.pass.ensures)),
      ap length (reached-some text x.to t x.stands c.loop-tokens-test.true),
    )

pub loop-tokens-preserved : goal.loop-tokens-preserved
loop-tokens-preserved c = λ k y.
    let text = c.args.tokens.now.text.now in
    let t = c.loop-tokens.tokens in
    let r = c.pass.new.self in
    let x = c.loop-tokens.invariant k y in
    no_arrow_here text k t x c.loop-tokens-test.true r (reached-next text x.to t x.stands r c.pass.ensures)
    (same-test _ _ (reached-ahead text x.to t x.stands _ c.current-kind.ensures) ∙ c.if-kind.false)

pub returns : goal.returns
returns c = λ k y.
    let t = c.loop-tokens.tokens in
    no_arrow c.args.tokens.now.text.now k t (c.loop-tokens.invariant k y) c.loop-tokens-test.false
