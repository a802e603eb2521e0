-- `virtual` and what follows it; `thread` or `subprogram`, with `group` or without; one of the others; or nothing (Forms). Assumes nothing.
use mathlib.Core.Path.{refl}
use mathlib.Core.List.{[], ◌∷◌}
use borrow.Author.Tests.{eq-eqb, ne_eqb}
use Rattle.predictive.specs.Grammar.{free}
use Rattle.predictive.specs.Reader.{ones}
use Rattle.predictive.proofs.Heads.{same, among}
use Rattle.aadl.specs.Kinds.{VIRTUAL_KW, THREAD_KW, SUBPROGRAM_KW, #◌}
use Rattle.aadl.specs.Section.{heads, component_forms}
use Rattle.syntax_kind.specs.Categories.{categories}
use Rattle.parser.specs.Parsers.{source, counters}
use Rattle.parser.proofs.Parsers.{r-seq, r-inside}
use Rattle.categories.proofs.Words.{joined-are, stands-neither, r-where, r-where_unless, r-no_form}
use Rattle.categories.proofs.Forms.{component-word, virtual_form, group_form, lone-component}
use Rattle.categories.proofs.component_category.Goals as goal

pub returns-then-not-is_component_category_kw : goal.returns-then-not-is_component_category_kw
unfolding ones same among categories
returns-then-not-is_component_category_kw c = λ d.
    let p = c.args.p.now in
    r-no_form (ones categories) component_forms refl
    (component-word (source p.tokens) (counters p) c.current-kind.ensures c.is_component_category_kw.ensures (c.if-not-is_component_category_kw.true))

pub returns-then-kind-eq-VIRTUAL_KW : goal.returns-then-kind-eq-VIRTUAL_KW
returns-then-kind-eq-VIRTUAL_KW c = λ d.
    let p = c.args.p.now in
    r-where (heads (VIRTUAL_KW ∷ [])) (virtual_form d)
    (joined-are (source p.tokens) (counters p) (# VIRTUAL_KW) [] refl
    c.current-kind.ensures (eq-eqb _ _ c.if-kind-eq-VIRTUAL_KW.true))
    (r-inside c.start-m.ensures
    (r-seq (c.bump.ensures d)
    (c.virtual_kind.ensures d))
    c.complete.ensures)

pub returns-then-kind : goal.returns-then-kind
returns-then-kind c = λ d.
    let p = c.args.p.now in
    r-where (heads (THREAD_KW ∷ SUBPROGRAM_KW ∷ [])) (group_form d)
    (joined-are (source p.tokens) (counters p) (# THREAD_KW) (# SUBPROGRAM_KW ∷ []) refl
    c.current-kind.ensures c.if-kind.true)
    (r-inside c.start-m.ensures
    (r-seq (c.bump_any.ensures d)
    (c.eat.ensures d free))
    c.complete-then-kind.ensures)

pub returns-else-kind : goal.returns-else-kind
unfolding ones
returns-else-kind c = λ d.
    let p = c.args.p.now in
    let inp = source p.tokens in
    let x = c.current-kind in
    r-where_unless (ones categories) (heads (VIRTUAL_KW ∷ THREAD_KW ∷ SUBPROGRAM_KW ∷ [])) (lone-component d)
    (component-word inp (counters p) x.ensures c.is_component_category_kw.ensures (c.if-not-is_component_category_kw.false))
    (stands-neither inp (heads (VIRTUAL_KW ∷ [])) (heads (THREAD_KW ∷ SUBPROGRAM_KW ∷ [])) (counters p)
    (joined-are inp (counters p) (# VIRTUAL_KW) [] refl x.ensures (ne_eqb _ _ c.if-kind-eq-VIRTUAL_KW.false))
    (joined-are inp (counters p) (# THREAD_KW) (# SUBPROGRAM_KW ∷ []) refl x.ensures c.if-kind.false))
    (r-inside c.start-m.ensures
    (c.bump_any-else-kind.ensures d)
    c.complete-else-kind.ensures)
