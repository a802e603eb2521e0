-- One chunk at a turn: the whole chunks from `i` on end where those from `from` on end. The measure is what is left of the text. Assumes
-- nothing.
use Prim.Native.Nat.{◌≤◌, ◌-◌}
use mathlib.Core.Path.{◌≡◌}
use lib.ListN.{length}
use Rattle.classes.specs.Search.{unsought, chunks_end}
use Rattle.classes.proofs.skip_chunks.Given as goal

abbrev pub invariant-loop-i : goal.invariant-loop-i
invariant-loop-i l = (chunks_end (unsought l.least l.most) l.s l.i ≡ chunks_end (unsought l.least l.most) l.s l.from) × (l.i ≤ length l.s)

abbrev pub decreases-loop-i : goal.decreases-loop-i
decreases-loop-i l = length l.s - l.i
