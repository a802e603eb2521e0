-- A name where one stands, else its message. Assumes nothing.
use Prim.Native.Nat.{ℕ}
use mathlib.Core.Path.{sym, subst, ◌∙◌}
use Rattle.predictive.specs.Grammar.{tok}
use Rattle.aadl.specs.Section.{names}
use Rattle.parser.specs.Parsers.{ReadsWithin}
use Rattle.parser.proofs.Parsers.{r-tok_yes, r-tok_no}
use Rattle.categories.proofs.name_or_error.Goals as goal

pub returns-then-at_ident_or_kw : goal.returns-then-at_ident_or_kw
returns-then-at_ident_or_kw c = λ d. r-tok_yes (sym c.at_ident_or_kw.ensures ∙ c.if-at_ident_or_kw.true) (c.bump_any.ensures d)

pub returns-else-at_ident_or_kw : goal.returns-else-at_ident_or_kw
returns-else-at_ident_or_kw c = λ d.
    subst (λ (m : ℕ). ReadsWithin d (tok m names) c.args.p.now c.error.new.self) c.from.ensures
    (r-tok_no (sym c.at_ident_or_kw.ensures ∙ c.if-at_ident_or_kw.false) c.error.ensures)
