-- A C-style literal where it stands, and else nothing that begins an operand (Operands). Assumes nothing.
use mathlib.Core.Path.{◌≡◌, refl, sym, ◌∙◌}
use mathlib.Core.Bool.{false}
use mathlib.Core.List.{[], ◌∷◌}
use borrow.Author.Tests.{eq-eqb, ne_eqb}
use Rattle.predictive.specs.Reader.{ones, first, null, take_one, take_any, take_wrong, step, read}
use Rattle.aadl.specs.Symbols.{C_STYLE}
use Rattle.aadl.specs.Section.{names, keywords}
use Rattle.parser.specs.Parsers.{source, counters, stand}
use Rattle.parser.proofs.Parsers.{r-fail}
use Rattle.categories.proofs.Words.{kinds-are, stands-neither}
use Rattle.expressions.specs.Openers.{beginnings}
use Rattle.expressions.proofs.Operands.{arm_at, no_operand}
use Rattle.expressions.proofs.no_operand.Goals as goal

pub returns-then-current-eq-C_STYLE : goal.returns-then-current-eq-C_STYLE
unfolding read step first null ones names keywords take_one take_any take_wrong
returns-then-current-eq-C_STYLE c =
    let p = c.args.p.now in
    λ d. arm_at C_STYLE (λ n ys. refl)
    (sym (kinds-are (source p.tokens) (counters p) (C_STYLE ∷ []) refl c.current.ensures) ∙ rw (eq-eqb c.current.result C_STYLE c.if-current-eq-C_STYLE.true) refl)
    (c.c_style_value.ensures d)

pub returns : goal.returns
unfolding ones
returns c =
    let p = c.args.p.now in
    let inp = source p.tokens in
    let none : stand (ones (C_STYLE ∷ [])) p ≡ false =
    sym (kinds-are inp (counters p) (C_STYLE ∷ []) refl c.current.ensures) ∙ rw (ne_eqb c.current.result C_STYLE c.if-current-eq-C_STYLE.false) refl in
    λ d. no_operand (stands-neither inp (ones beginnings) (ones (C_STYLE ∷ [])) (counters p) c.requires none) (r-fail c.error.ensures)
