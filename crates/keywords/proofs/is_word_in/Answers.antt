-- Words of different lengths differ, and of others each letter is compared (Comparing). Assumes nothing.
use mathlib.Core.Path.{sym, ap, ◌∙◌}
use borrow.Author.Tests.{ne_eqb}
use Rattle.aadl.specs.Words.{same}
use Rattle.aadl.proofs.KeywordKinds.{lower-case}
use Rattle.keywords.proofs.Comparing.{same_length, same_letters, row-lower_case}
use Rattle.keywords.proofs.is_word_in.Goals as goal

pub returns-then-own-word : goal.returns-then-own-word
returns-then-own-word c =
    let own = c.spelling-own in
    let word = c.args.word.now in
    c.same_letters.ensures ∙ same_letters own.result.now word (ap lower-case own.ensures ∙ row-lower_case c.args.i c.requires) c.if-own-word.true ∙ ap (λ v. same v word) own.ensures

pub returns-else-own-word : goal.returns-else-own-word
returns-else-own-word c =
    let own = c.spelling-own in
    let word = c.args.word.now in
    ne_eqb _ _ c.if-own-word.false ∙ sym (same_length own.result.now word c.if-own-word.false) ∙ ap (λ v. same v word) own.ensures
