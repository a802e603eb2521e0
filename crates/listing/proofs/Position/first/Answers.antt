-- The first place, and the spot of its byte (PositionLaws). Assumes nothing.
use mathlib.Core.Path.{ap}
use Rattle.parser.specs.declared.Tokens.{Tokens}
use Rattle.parser.specs.Input.{input}
use Rattle.listing.proofs.PositionLaws.{begin-is}
use Rattle.listing.proofs.Position.first.Goals as goal

pub returns : goal.returns
returns c =
    let t = c.new-t.ensures in
    begin-is (input c.args.src.now c.args.toks.now) (ap (λ (x : Tokens). x.at) t) (ap (λ (x : Tokens). x.byte) t) c.first_spot.ensures c.spot_at-spot.ensures
