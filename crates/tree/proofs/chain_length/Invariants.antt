-- One Start at a turn: those counted, and the chain that is left, are as many as the whole chain has (Chains, of the first words). The measure
-- is how many events lie ahead. Assumes nothing.
use Prim.Native.Nat.{◌+◌, ◌-◌, ◌≤◌}
use mathlib.Core.Path.{◌≡◌}
use lib.ListN.{length}
use Rattle.aadl.specs.Encoding.{told_by}
use Rattle.tree.specs.Walk.{links}
use Rattle.tree.proofs.chain_length.Given as goal

abbrev pub invariant-loop-at : goal.invariant-loop-at
invariant-loop-at l = (l.n + length (links 0 (told_by l.events) l.at) ≡ length (links 0 (told_by l.events) l.i)) × (l.n ≤ l.at)

abbrev pub decreases-loop-at : goal.decreases-loop-at
decreases-loop-at l = l.told - l.at
