-- The end's symbol once the parser stopped, else that of its tokens (Parsers). Assumes nothing.
use mathlib.Core.Path.{sym, ◌∙◌}
use Rattle.parser.specs.Parsers.{source, counters}
use Rattle.parser.proofs.Tests.{nth-stopped}
use Rattle.parser.proofs.Parsers.{nth-uncounted}
use Rattle.parser.proofs.Parser.current.Goals as goal

pub returns-then-self-ne0 : goal.returns-then-self-ne0
returns-then-self-ne0 c =
    let p = c.args.self.now in
    sym (nth-stopped (source p.tokens) (counters p) 0 c.if-self-ne0.true)

pub returns : goal.returns
returns c = c.current.ensures ∙ nth-uncounted _ c.args.self.now 0 c.if-self-ne0.false
