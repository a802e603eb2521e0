-- What is found so far, or is found in the words from there on, is what is found in all. Assumes nothing.
use Prim.Native.Nat.{◌-◌}
use mathlib.Core.Path.{◌≡◌}
use mathlib.Core.Bool.{◌||◌}
use lib.ListN.{take, drop}
use Rattle.aadl.specs.Encoding.{first_words}
use Rattle.section.proofs.CleanLaws.{erring-words}
use Rattle.section.proofs.any_error.Given as goal

abbrev pub invariant-loop-i : goal.invariant-loop-i
invariant-loop-i l =
    let ws = first_words l.events in
    (l.found || erring-words (take (l.told - l.i) (drop l.i ws))) ≡ erring-words (take l.told ws)
