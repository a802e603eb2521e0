-- The cases of a symbol: an ERROR that begins with `0`, another ERROR, any other kind, no word (Trivia). Assumes nothing.
use mathlib.Core.Path.{refl, sym, ◌∙◌}
use borrow.Author.Tests.{eq-eqb, ne_eqb}
use borrow.Author.Rules.{rules}
use Rattle.parser.specs.Input.{rest}
use Rattle.parser.specs.Parsers.{source, cursor}
use Rattle.parser.proofs.Trivia.{ahead-is, ahead-ends}
use Rattle.parser.proofs.Tests.{nth-goes}
use Rattle.parser.proofs.Tokens.current.Goals as goal

pub returns-then-peek-eq48 : goal.returns-then-peek-eq48
unfolding rest
returns-then-peek-eq48 c =
    let t = c.args.self in
    sym (rw (eq-eqb _ _ c.if-kind-eq-ERROR.true, eq-eqb _ _ c.if-peek-eq48.true) refl)
    ∙ ahead-is t.text.now t.words.now t.at t.byte (search rules) c.kind_in-kind.ensures c.peek.ensures
    ∙ sym (nth-goes (source t) (cursor t) 0 refl)

pub returns-else-peek-eq48 : goal.returns-else-peek-eq48
unfolding rest
returns-else-peek-eq48 c =
    let t = c.args.self in
    sym (rw (eq-eqb _ _ c.if-kind-eq-ERROR.true, ne_eqb _ _ c.if-peek-eq48.false) refl)
    ∙ ahead-is t.text.now t.words.now t.at t.byte (search rules) c.kind_in-kind.ensures c.peek.ensures
    ∙ sym (nth-goes (source t) (cursor t) 0 refl)

pub returns-else-kind-eq-ERROR : goal.returns-else-kind-eq-ERROR
unfolding rest
returns-else-kind-eq-ERROR c =
    let t = c.args.self in
    sym (rw (ne_eqb _ _ c.if-kind-eq-ERROR.false) refl)
    ∙ ahead-is t.text.now t.words.now t.at t.byte (search rules) c.kind_in-kind.ensures refl
    ∙ sym (nth-goes (source t) (cursor t) 0 refl)

pub returns : goal.returns
unfolding rest
returns c =
    let t = c.args.self in
    ahead-ends t.text.now t.words.now t.at t.byte (search rules) ∙ sym (nth-goes (source t) (cursor t) 0 refl)
