-- Behind the bound by the run; before it four bytes at a turn with no test for the end: the place looked at goes on (WordLaws) behind each
-- byte of a word. The measure is what is left up to the bound. Assumes nothing.
use Prim.Native.Nat.{◌-◌, ◌+◌}
use Rattle.scan.proofs.WordLaws.{Going}
use Rattle.scan.proofs.Scanner.word_end.Given as goal

abbrev pub invariant-loop-s : goal.invariant-loop-s
invariant-loop-s l = Going l.s l.from l.self.bound l.i

abbrev pub decreases-loop-s : goal.decreases-loop-s
decreases-loop-s l = l.self.bound + 1 - l.i
