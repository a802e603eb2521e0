-- The kind ahead is one of the heads' (Tests). Assumes nothing.
use Rattle.parser.specs.Parsers.{source, counters}
use Rattle.parser.proofs.Tests.{either-is}
use Rattle.parser.proofs.Parser.at_either.Goals as goal

pub returns : goal.returns
returns c =
    let p = c.args.self.now in
    either-is (source p.tokens) (counters p) c.args.kind c.args.other c.requires.0 c.requires.1 c.current-symbol.ensures
