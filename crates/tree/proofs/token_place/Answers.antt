-- One token is passed at a turn (section's Reaching). Assumes nothing.
use Prim.Native.Nat.{ℕ}
use native.Mathlib.Omega.{arith}
use native.Mathlib.Numerals.{add-one}
use mathlib.Core.Path.{sym, ap, subst, ◌∙◌}
use Rattle.aadl.specs.Symbols.{start_of}
use Rattle.section.specs.Reaching.{Reached}
use Rattle.section.proofs.Reaching.{reached-first, reached-next, reached-place}
use Rattle.tree.proofs.token_place.Goals as goal

pub loop-init : goal.loop-init
loop-init c = subst (Reached c.args.text.now 0) (sym c.new-tokens.ensures) (reached-first c.args.text c.args.words c.requires.0 c.requires.1)

pub loop-preserved : goal.loop-preserved
loop-preserved c =
    let text = c.args.text.now in
    let l = c.loop in
    let t = c.pass.new.self in
    subst (λ (k : ℕ). Reached text k t) (sym (add-one l.counter)) (reached-next text l.counter l.tokens l.invariant t c.pass.ensures)

pub returns : goal.returns
returns c =
    let l = c.loop in
    reached-place c.args.text.now l.counter l.tokens l.invariant ∙ ap (start_of c.args.text.now) (omega arith)
