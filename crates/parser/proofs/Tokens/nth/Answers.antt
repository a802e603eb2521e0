-- One token further at a turn: what remains is what remained, without as many symbols as there were turns (Trivia). Assumes nothing.
use Prim.Native.Nat.{ℕ}
use native.Mathlib.Omega.{arith}
use native.Mathlib.Numerals.{add-one}
use mathlib.Core.Path.{◌≡◌, refl, sym, ap, ◌∙◌}
use lib.ListN.{drop}
use Rattle.parser.specs.declared.Tokens.{Tokens}
use Rattle.parser.specs.Input.{rest, ahead}
use Rattle.parser.specs.Parsers.{source, cursor}
use Rattle.parser.proofs.Trivia.{tail, tail-drop, standing-after_one}
use Rattle.parser.proofs.Tests.{nth-goes}
use Rattle.parser.proofs.Tokens.nth.Goals as goal

pub loop-init : goal.loop-init
loop-init c = refl

pub loop-preserved : goal.loop-preserved
unfolding rest
loop-preserved c =
    let t = c.loop.t in
    let all = rest (source c.args.self) (cursor c.args.self) in
    ap (λ (u : Tokens). rest (source u) (cursor u)) c.pass.ensures
    ∙ standing-after_one t.text.now t.words.now t.at t.byte ∙ ap tail c.loop.invariant ∙ tail-drop c.loop.counter all
    ∙ ap (λ (k : ℕ). drop k all) (sym (add-one c.loop.counter))

pub returns : goal.returns
returns c =
    let t = c.args.self in
    let all = rest (source t) (cursor t) in
    let e : c.loop.counter ≡ c.args.n = omega (arith, c.loop.auto.counter-end, c.loop-test.false) in
    c.current.ensures ∙ nth-goes (source c.loop.t) (cursor c.loop.t) 0 refl ∙ ap ahead (c.loop.invariant ∙ ap (λ (k : ℕ). drop k all) e)
    ∙ sym (nth-goes (source t) (cursor t) c.args.n refl)
