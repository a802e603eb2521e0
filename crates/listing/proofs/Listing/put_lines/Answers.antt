-- A line at each turn (PieceLaws), by an event's first word. Assumes nothing.
use native.Mathlib.Omega.{arith}
use Rattle.listing.proofs.PieceLaws.{putting_starts, putting_more, putting_full, putting_whole}
use Rattle.listing.proofs.Listing.put_lines.Goals as goal

pub loop-i-init : goal.loop-i-init
loop-i-init c = putting_starts _ c.args.self.now c.args.w.now

pub loop-i-preserved : goal.loop-i-preserved
loop-i-preserved c =
    putting_more c.args.src.now c.args.toks.now c.args.words.now c.loop-i.invariant c.first_word-word.result c.behind-self.result (omega (arith, c.events_told-i-end.ensures)) c.first_word-word.ensures
    (omega (arith, c.room.ensures)) c.put_line.ensures.line c.put_line.ensures.fits c.behind-self.ensures

pub returns-then-room-lt-LINE-clause-lines : goal.returns-then-room-lt-LINE-clause-lines
returns-then-room-lt-LINE-clause-lines c = putting_full c.args.src.now c.args.toks.now c.args.words.now c.loop-i.invariant (omega (arith, c.room.ensures))

pub returns-clause-lines : goal.returns-clause-lines
returns-clause-lines c = putting_whole c.args.src.now c.args.toks.now c.args.words.now c.loop-i.invariant (omega (arith, c.events_told-i-end.ensures))
