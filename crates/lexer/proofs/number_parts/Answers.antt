-- What is told holds whichever it is (aadl's NumberLaws). Assumes nothing.
use mathlib.Core.Path.{◌≡◌, sym, subst}
use Rattle.aadl.specs.Tokens.{from_token}
use Rattle.aadl.specs.NumberParts.{number_parts, PartsHold}
use Rattle.aadl.proofs.NumberLaws.{told-parts_hold}
use borrow.Author.Rules.{rules}
use Rattle.lexer.proofs.number_parts.Goals as goal

pub returns-clause-parts_hold : goal.returns-clause-parts_hold
returns-clause-parts_hold c =
    let a = c.args in
    let told : c.unwrap_or_default.result ≡ number_parts a.src.now a.words.now a.number = search rules in
    subst (PartsHold (from_token a.src.now a.words.now a.number)) (sym told) (told-parts_hold a.src.now a.words.now a.number)
