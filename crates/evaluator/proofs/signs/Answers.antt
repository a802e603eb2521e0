-- One sign at a turn (Passing). The measure is what remains. Assumes nothing.
use Prim.Native.Nat.{suc}
use native.Mathlib.Omega.{arith}
use mathlib.Core.Path.{refl, sym, ◌∙◌}
use mathlib.Core.List.{[], ◌∷◌}
use Rattle.aadl.specs.Kinds.{PLUS, MINUS, #◌}
use Rattle.section.proofs.Reaching.{reached-next}
use Rattle.evaluator.proofs.Ahead.{reached-ahead}
use Rattle.evaluator.proofs.Passing.{two-kinds, not_end, fewer, no_sign_yet, one-sign_more, no_sign_more}
use Rattle.evaluator.proofs.signs.Goals as goal

pub loop-kind-init : goal.loop-kind-init
loop-kind-init c = λ k x.
    let t = c.args.tokens.now in
    no_sign_yet t.text.now k t c.current-kind.result x (reached-ahead t.text.now k t x _ c.current-kind.ensures)

pub loop-kind-smaller : goal.loop-kind-smaller
loop-kind-smaller c =
    let text = c.args.tokens.now.text.now in
    let l = c.loop-kind in
    let r = c.pass.new.self in
    let x = l.invariant c.requires.0 c.requires.1 in
    let sign = two-kinds (# PLUS) (# MINUS) l.kind ∙ c.loop-kind-test.true in
    fewer text x.to x.to l.kind l.tokens r x.stands (omega arith) (sym x.shows) (not_end (# PLUS ∷ # MINUS ∷ []) l.kind sign refl)
    (reached-next text x.to l.tokens x.stands r c.pass.ensures)

pub loop-kind-preserved : goal.loop-kind-preserved
loop-kind-preserved c = λ k y.
    let text = c.args.tokens.now.text.now in
    let l = c.loop-kind in
    let r = c.pass.new.self in
    let d = c.current-kind-in-loop-kind in
    let x = l.invariant k y in
    let next = reached-next text x.to l.tokens x.stands r c.pass.ensures in
    one-sign_more text k l.tokens r l.negative l.kind d.result x c.loop-kind-test.true next (reached-ahead text (suc x.to) r next d.result d.ensures)

pub returns : goal.returns
returns c = λ k y.
    let l = c.loop-kind in
    no_sign_more c.args.tokens.now.text.now k l.tokens l.negative l.kind (l.invariant k y) c.loop-kind-test.false
