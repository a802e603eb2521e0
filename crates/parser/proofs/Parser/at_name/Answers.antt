-- The cases of a name: an identifier, a keyword, neither (Tests). Assumes nothing.
use mathlib.Core.Path.{refl, sym, ◌∙◌}
use borrow.Author.Tests.{eq-eqb, ne_eqb}
use Rattle.parser.specs.Parsers.{source, counters}
use Rattle.parser.proofs.Tests.{name-is}
use Rattle.parser.proofs.Parser.at_name.Goals as goal

pub returns-then-kind-eq-IDENT : goal.returns-then-kind-eq-IDENT
returns-then-kind-eq-IDENT c = λ m.
    let p = c.args.self.now in
    sym (rw (eq-eqb _ _ c.if-kind-eq-IDENT.true) refl) ∙ name-is (source p.tokens) (counters p) m c.current-kind.ensures refl

pub returns-then-is_keyword : goal.returns-then-is_keyword
returns-then-is_keyword c = λ m.
    let p = c.args.self.now in
    sym (rw (ne_eqb _ _ c.if-kind-eq-IDENT.false, sym c.is_keyword.ensures ∙ c.if-is_keyword.true) refl)
    ∙ name-is (source p.tokens) (counters p) m c.current-kind.ensures c.nth.ensures

pub returns : goal.returns
returns c = λ m.
    let p = c.args.self.now in
    sym (rw (ne_eqb _ _ c.if-kind-eq-IDENT.false, sym c.is_keyword.ensures ∙ c.if-is_keyword.false) refl)
    ∙ name-is (source p.tokens) (counters p) m c.current-kind.ensures refl
