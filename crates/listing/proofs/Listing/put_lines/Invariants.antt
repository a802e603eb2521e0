-- A line at each turn (PieceLaws), by an event's first word. Assumes nothing.
use Rattle.listing.specs.Pieces.{lines_at}
use Rattle.listing.proofs.PieceLaws.{Putting}
use Rattle.listing.proofs.Listing.put_lines.Given as goal

abbrev pub invariant-loop-i : goal.invariant-loop-i
invariant-loop-i l = Putting (lines_at l.src l.toks l.words) l.initial.self l.initial.w l.self l.w l.i
