-- The word ahead, whose kind a C-style literal shows too, whatever the text is (Tests). Assumes nothing.
use mathlib.Core.Path.{refl, sym, ap, ◌∙◌}
use borrow.Author.Rules.{rules}
use Rattle.aadl.specs.Symbols.{shown}
use Rattle.parser.specs.Input.{input, rest}
use Rattle.parser.specs.Parsers.{cursor}
use Rattle.parser.proofs.Tests.{nth-goes, shown-ahead, shown-end}
use Rattle.parser.proofs.Tokens.kind.Goals as goal

pub returns-then-self : goal.returns-then-self
unfolding rest
returns-then-self c = λ text.
    let t = c.args.self in
    c.kind_in.ensures ∙ shown-ahead text t.words.now t.at t.byte (search rules) ∙ sym (ap shown (nth-goes (input text t.words.now) (cursor t) 0 refl))

pub returns : goal.returns
unfolding rest
returns c = λ text.
    let t = c.args.self in
    shown-end text t.words.now t.at t.byte (search rules) ∙ sym (ap shown (nth-goes (input text t.words.now) (cursor t) 0 refl))
