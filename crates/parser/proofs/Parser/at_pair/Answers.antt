-- The first kind stands, and the second is ahead of it (Tests). Assumes nothing.
use Prim.Native.Nat.{ℕ}
use mathlib.Core.Path.{sym, ap, ◌∙◌}
use lib.Dec.{eqb}
use Rattle.parser.specs.Parsers.{source, counters}
use Rattle.parser.proofs.Tests.{two_is}
use Rattle.parser.proofs.Parser.at_pair.Goals as goal

pub returns-then-at : goal.returns-then-at
returns-then-at c =
    let a = c.args in
    let p = a.self.now in
    ap (λ (x : ℕ). eqb x a.next) c.nth.ensures
    ∙ two_is (source p.tokens) (counters p) a.kind a.next c.requires.1
    (sym c.at.ensures ∙ c.if-at.true)

pub returns : goal.returns
returns c =
    let a = c.args in
    let p = a.self.now in
    two_is (source p.tokens) (counters p) a.kind a.next c.requires.1
    (sym c.at.ensures ∙ c.if-at.false)
