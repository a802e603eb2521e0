-- A Token's word passes a token and goes on to the next one's spot; any other leaves the position (PositionLaws). Assumes nothing.
use mathlib.Core.Path.{sym, ap, ◌∙◌}
use Rattle.parser.specs.declared.Tokens.{Tokens}
use Rattle.parser.specs.Input.{input}
use Rattle.listing.proofs.PositionLaws.{step-token, step_other}
use Rattle.listing.proofs.Position.behind.Goals as goal

pub returns-then-class_in-eq1 : goal.returns-then-class_in-eq1
returns-then-class_in-eq1 c =
    let a = c.args in
    let t = c.pass.ensures in
    step-token (input a.src.now a.toks.now) a.word a.self (sym c.class_in.ensures ∙ c.if-class_in-eq1.true) (ap (λ (x : Tokens). x.at) t) (ap (λ (x : Tokens). x.byte) t)
    c.spot_at-spot.ensures

pub returns : goal.returns
returns c =
    let a = c.args in
    step_other (input a.src.now a.toks.now) a.word a.self (λ e. c.if-class_in-eq1.false (c.class_in.ensures ∙ e))
