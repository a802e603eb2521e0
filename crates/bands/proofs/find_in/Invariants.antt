-- One word at a turn: the one that is left to find stands as far on from here as it did from the start (Counted). Assumes nothing.
use Prim.Native.Nat.{◌+◌}
use mathlib.Core.Path.{◌≡◌}
use lib.ListN.{drop}
use Rattle.bands.specs.Bands.{nth_within}
use Rattle.bands.proofs.find_in.Given as goal

abbrev pub invariant-loop-i : goal.invariant-loop-i
invariant-loop-i l = nth_within l.band l.number l.words ≡ l.i + nth_within l.band l.left (drop l.i l.words)
