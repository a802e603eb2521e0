-- A string byte by byte (StringLaws). The measure is what is left of the text. Assumes nothing.
use mathlib.Core.Path.{sym, ◌∙◌}
use Rattle.scan.proofs.StringLaws.{passed-plain, passed-doubled, ends-closed, ends_open}
use borrow.Author.Rules.{rules}
use Rattle.scan.proofs.quoted.Goals as goal

pub returns-then-peek-ne34 : goal.returns-then-peek-ne34
returns-then-peek-ne34 c =
    let l = c.loop-i in
    ends-closed l.invariant (search rules) c.if-s-i-eq34.true (λ q. c.if-peek-ne34.true (c.peek.ensures ∙ q))

pub loop-i-preserved-then-s-i-eq34 : goal.loop-i-preserved-then-s-i-eq34
loop-i-preserved-then-s-i-eq34 c =
    let l = c.loop-i in
    passed-doubled l.invariant (search rules) c.if-s-i-eq34.true (sym c.peek.ensures ∙ c.if-peek-ne34.false)

pub loop-i-preserved : goal.loop-i-preserved
loop-i-preserved c = passed-plain c.loop-i.invariant (search rules) c.if-s-i-eq34.false

pub returns : goal.returns
returns c = ends_open c.loop-i.invariant (search rules)
