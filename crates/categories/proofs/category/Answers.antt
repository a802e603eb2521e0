-- Each test says which form is the longest that stands (Forms); those before it have failed. Assumes nothing.
use mathlib.Core.Path.{◌≡◌, refl, sym, ◌∙◌}
use mathlib.Core.Bool.{false}
use mathlib.Core.List.{[], ◌∷◌}
use Rattle.predictive.specs.Grammar.{one, two, best, free}
use Rattle.predictive.specs.Reader.{ones}
use Rattle.aadl.specs.Kinds.{BUS_KW, DATA_KW, PORT_KW, EVENT_KW, ACCESS_KW, FEATURE_KW, #◌}
use Rattle.aadl.specs.Section.{category_forms}
use Rattle.syntax_kind.specs.Categories.{categories}
use Rattle.parser.specs.Parsers.{source, counters, stand}
use Rattle.parser.proofs.Parsers.{r-seq}
use Rattle.categories.proofs.Words.{stands-neither, ◌nor◌, nothing-else, absent, word-form, r-pair, r-where, r-unless, r-where_unless}
use Rattle.categories.proofs.Forms.{component-word, event-data_form, event-form, feature-form, feature-heads, component-form, other-heads, access_form}
use Rattle.categories.proofs.category.Goals as goal

pub returns-then-at_pair : goal.returns-then-at_pair
unfolding best
returns-then-at_pair c = λ d.
    r-pair category_forms (# DATA_KW) (# PORT_KW) (λ ys. refl) (sym c.at_pair.ensures ∙ c.if-at_pair.true)
    (c.bump.ensures d) (c.bump-then-at_pair.ensures d)

pub returns-then-at_pair-2 : goal.returns-then-at_pair-2
returns-then-at_pair-2 c = λ d.
    r-where (two (# EVENT_KW) (# DATA_KW) ∷ []) (event-data_form d) (sym c.at_pair-2.ensures ∙ c.if-at_pair-2.true)
    (r-seq
    (r-seq (c.bump-then-at_pair-2.ensures d) (c.bump-then-at_pair-2-2.ensures d))
    (c.eat.ensures d free))

pub returns-then-at_pair-3 : goal.returns-then-at_pair-3
unfolding best
returns-then-at_pair-3 c = λ d.
    r-pair category_forms (# EVENT_KW) (# PORT_KW) (λ ys. refl) (sym c.at_pair-3.ensures ∙ c.if-at_pair-3.true)
    (c.bump-then-at_pair-3.ensures d) (c.bump-then-at_pair-3-2.ensures d)

pub returns-then-at : goal.returns-then-at
returns-then-at c = λ d.
    r-where_unless (one (# EVENT_KW) ∷ []) (two (# EVENT_KW) (# DATA_KW) ∷ two (# EVENT_KW) (# PORT_KW) ∷ []) (event-form d)
    (sym c.at.ensures ∙ c.if-at.true)
    (absent ((sym c.at_pair-2.ensures ∙ c.if-at_pair-2.false) nor (sym c.at_pair-3.ensures ∙ c.if-at_pair-3.false) nor nothing-else))
    (c.bump-then-at.ensures d)

pub returns-then-at_pair-4 : goal.returns-then-at_pair-4
unfolding best
returns-then-at_pair-4 c = λ d.
    r-pair category_forms (# DATA_KW) (# ACCESS_KW) (λ ys. refl) (sym c.at_pair-4.ensures ∙ c.if-at_pair-4.true)
    (c.bump-then-at_pair-4.ensures d) (c.bump-then-at_pair-4-2.ensures d)

pub returns-then-at_pair-5 : goal.returns-then-at_pair-5
unfolding best
returns-then-at_pair-5 c = λ d.
    r-pair category_forms (# BUS_KW) (# ACCESS_KW) (λ ys. refl) (sym c.at_pair-5.ensures ∙ c.if-at_pair-5.true)
    (c.bump-then-at_pair-5.ensures d) (c.bump-then-at_pair-5-2.ensures d)

pub returns-then-at-2 : goal.returns-then-at-2
returns-then-at-2 c = λ d.
    r-where (one (# FEATURE_KW) ∷ []) (feature-form d) (sym c.at-2.ensures ∙ c.if-at-2.true)
    (r-seq (c.bump-then-at-2.ensures d) (c.eat-then-at-2.ensures d free))

pub returns-then-is_component_category_kw : goal.returns-then-is_component_category_kw
returns-then-is_component_category_kw c =
    let no_feature : stand feature-heads c.args.p.now ≡ false =
    absent
    ((sym c.at_pair.ensures ∙ c.if-at_pair.false)
    nor (sym c.at_pair-2.ensures ∙ c.if-at_pair-2.false)
    nor (sym c.at_pair-3.ensures ∙ c.if-at_pair-3.false)
    nor (sym c.at.ensures ∙ c.if-at.false)
    nor (sym c.at_pair-4.ensures ∙ c.if-at_pair-4.false)
    nor (sym c.at_pair-5.ensures ∙ c.if-at_pair-5.false)
    nor (sym c.at-2.ensures ∙ c.if-at-2.false)
    nor nothing-else) in
    λ d.
    r-where_unless (ones categories) feature-heads (component-form d)
    (component-word (source c.args.p.now.tokens) (counters c.args.p.now) c.current.ensures c.is_component_category_kw.ensures c.if-is_component_category_kw.true)
    (no_feature)
    (c.component_category.ensures d)

pub returns-then-at-3 : goal.returns-then-at-3
unfolding best
returns-then-at-3 c = λ d.
    r-where (one (# PORT_KW) ∷ []) (word-form category_forms d (# PORT_KW) (λ ys. refl)) (sym c.at-3.ensures ∙ c.if-at-3.true)
    (c.bump-then-at-3.ensures d)

pub returns-else-at-3 : goal.returns-else-at-3
returns-else-at-3 c =
    let no_feature : stand feature-heads c.args.p.now ≡ false =
    absent
    ((sym c.at_pair.ensures ∙ c.if-at_pair.false)
    nor (sym c.at_pair-2.ensures ∙ c.if-at_pair-2.false)
    nor (sym c.at_pair-3.ensures ∙ c.if-at_pair-3.false)
    nor (sym c.at.ensures ∙ c.if-at.false)
    nor (sym c.at_pair-4.ensures ∙ c.if-at_pair-4.false)
    nor (sym c.at_pair-5.ensures ∙ c.if-at_pair-5.false)
    nor (sym c.at-2.ensures ∙ c.if-at-2.false)
    nor nothing-else) in
    λ d.
    let p = counters c.args.p.now in
    let inp = source c.args.p.now.tokens in
    r-unless other-heads (access_form d)
    (stands-neither inp (one (# PORT_KW) ∷ feature-heads) (ones categories) p
    (stands-neither inp (one (# PORT_KW) ∷ []) feature-heads p (sym c.at-3.ensures ∙ c.if-at-3.false) (no_feature))
    (component-word inp p c.current.ensures c.is_component_category_kw.ensures c.if-is_component_category_kw.false))
    (c.eat-else-at-3.ensures d free)
