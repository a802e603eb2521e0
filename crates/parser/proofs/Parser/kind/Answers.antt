-- The end's symbol once the parser stopped, else the kind of its token (Parsers). Assumes nothing.
use mathlib.Core.Path.{sym, ap, ◌∙◌}
use Rattle.aadl.specs.Symbols.{shown}
use Rattle.parser.specs.Input.{input}
use Rattle.parser.specs.Parsers.{counters}
use Rattle.parser.proofs.Tests.{nth-stopped}
use Rattle.parser.proofs.Parsers.{nth-uncounted}
use Rattle.parser.proofs.Parser.kind.Goals as goal

pub returns-then-self-ne0 : goal.returns-then-self-ne0
unfolding shown
returns-then-self-ne0 c = λ text.
    let p = c.args.self.now in
    sym (ap shown (nth-stopped (input text p.tokens.words.now) (counters p) 0 c.if-self-ne0.true))

pub returns : goal.returns
returns c = λ text.
    let p = c.args.self.now in
    c.kind.ensures text ∙ ap shown (nth-uncounted (input text p.tokens.words.now) p 0 c.if-self-ne0.false)
