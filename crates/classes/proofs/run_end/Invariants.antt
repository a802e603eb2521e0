-- The run from `end` on ends where the run from `from` ends, which is at the first byte outside the class or behind the text. Assumes nothing.
use Prim.Native.Nat.{◌≤◌, max}
use mathlib.Core.Path.{◌≡◌}
use lib.ListN.{length}
use Rattle.aadl.specs.Bytes.{run_end}
use Rattle.classes.specs.Classes.{member}
use Rattle.classes.proofs.run_end.Given as goal

abbrev pub invariant-loop-end : goal.invariant-loop-end
invariant-loop-end l =
    let p = member l.class in
    (run_end p l.s l.end ≡ run_end p l.s l.from) × (l.end ≤ max l.from (length l.s))
