-- Many words at a turn: a part that has too few of them is passed as a whole (Counted). Assumes nothing.
use Prim.Native.Nat.{◌+◌, ◌-◌, ◌≤◌}
use mathlib.Core.Path.{◌≡◌}
use lib.ListN.{length}
use Rattle.bands.specs.Bands.{nth_within}
use Rattle.bands.proofs.find.Given as goal

abbrev pub invariant-loop-stride : goal.invariant-loop-stride
invariant-loop-stride l = record {
  shorter : length l.rest ≤ length l.words;
  left_to_find : nth_within l.band l.number l.words ≡ (length l.words - length l.rest) + nth_within l.band l.left l.rest;
}

abbrev pub decreases-loop-stride : goal.decreases-loop-stride
decreases-loop-stride l = length l.rest
