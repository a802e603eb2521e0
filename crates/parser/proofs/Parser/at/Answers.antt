-- The kind ahead is the head's (Tests). Assumes nothing.
use Rattle.parser.specs.Parsers.{source, counters}
use Rattle.parser.proofs.Tests.{one-is}
use Rattle.parser.proofs.Parser.at.Goals as goal

pub returns : goal.returns
returns c =
    let p = c.args.self.now in
    one-is (source p.tokens) (counters p) c.args.kind c.requires c.current.ensures
