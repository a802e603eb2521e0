-- Begun, it goes on; else the first line comes before the others, if there is room for a line (PieceLaws). Assumes nothing.
use native.Mathlib.Omega.{arith}
use Rattle.listing.proofs.PieceLaws.{left-whole, puts-same, puts_after, puts_none}
use Rattle.listing.proofs.Listing.put_piece.Goals as goal

pub returns-then-room-lt-LINE : goal.returns-then-room-lt-LINE
returns-then-room-lt-LINE c = puts_none _ c.args.w.now (omega (arith, c.room.ensures))

pub returns : goal.returns
returns c =
    let all = puts_after (omega (arith, c.room.ensures)) c.put_first.ensures.fits c.put_first.ensures.line c.more-2.ensures in
    puts-same all (left-whole c.args.text.now c.args.tokens.now c.args.events.now c.args.self.now c.if-self.false)
