-- `in`, with `out` or without; one of the others; or nothing (Forms). Assumes nothing.
use mathlib.Core.Path.{refl}
use mathlib.Core.List.{[], ◌∷◌}
use borrow.Author.Tests.{eq-eqb, ne_eqb}
use Rattle.predictive.specs.Grammar.{free}
use Rattle.predictive.specs.Reader.{ones}
use Rattle.predictive.proofs.Heads.{same, among}
use Rattle.aadl.specs.Kinds.{IN_KW, OUT_KW, PROVIDES_KW, REQUIRES_KW, #◌}
use Rattle.aadl.specs.Section.{numbers, heads, direction_forms}
use Rattle.parser.specs.Parsers.{source, counters}
use Rattle.parser.proofs.Parsers.{r-seq, r-inside}
use Rattle.categories.proofs.Words.{joined-are, stands-neither, r-where, r-no_form}
use Rattle.categories.proofs.Forms.{in_form, lone-direction}
use Rattle.categories.proofs.direction.Goals as goal

pub returns-then-kind-eq-IN_KW : goal.returns-then-kind-eq-IN_KW
returns-then-kind-eq-IN_KW c = λ d.
    let p = c.args.p.now in
    r-where (heads (IN_KW ∷ [])) (in_form d)
    (joined-are (source p.tokens) (counters p) (# IN_KW) [] refl
    c.current-kind.ensures (eq-eqb _ _ c.if-kind-eq-IN_KW.true))
    (r-inside c.start-m.ensures
    (r-seq (c.bump.ensures d)
    (c.eat.ensures d free))
    c.complete.ensures)

pub returns-then-kind : goal.returns-then-kind
returns-then-kind c = λ d.
    let p = c.args.p.now in
    r-where (heads (OUT_KW ∷ PROVIDES_KW ∷ REQUIRES_KW ∷ [])) (lone-direction d)
    (joined-are (source p.tokens) (counters p) (# OUT_KW) (numbers (PROVIDES_KW ∷ REQUIRES_KW ∷ [])) refl
    c.current-kind.ensures c.if-kind.true)
    (r-inside c.start-m-then-kind.ensures
    (c.bump_any.ensures d)
    c.complete-then-kind.ensures)

pub returns-else-kind : goal.returns-else-kind
unfolding ones same among
returns-else-kind c = λ d.
    let p = c.args.p.now in
    let inp = source p.tokens in
    let x = c.current-kind in
    r-no_form (heads (IN_KW ∷ OUT_KW ∷ PROVIDES_KW ∷ REQUIRES_KW ∷ [])) direction_forms refl
    (stands-neither inp (heads (IN_KW ∷ [])) (heads (OUT_KW ∷ PROVIDES_KW ∷ REQUIRES_KW ∷ [])) (counters p)
    (joined-are inp (counters p) (# IN_KW) [] refl x.ensures (ne_eqb _ _ c.if-kind-eq-IN_KW.false))
    (joined-are inp (counters p) (# OUT_KW) (numbers (PROVIDES_KW ∷ REQUIRES_KW ∷ [])) refl x.ensures c.if-kind.false))
