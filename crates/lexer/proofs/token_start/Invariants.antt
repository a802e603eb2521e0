-- The first words are added up, up to the cap (CappedTotal). Assumes nothing.
use Prim.Native.Nat.{min}
use mathlib.Core.Path.{◌≡◌}
use lib.ListN.{take}
use Rattle.aadl.specs.Tokens.{total}
use Rattle.lexer.proofs.token_start.Given as goal

abbrev pub invariant-loop-w : goal.invariant-loop-w
invariant-loop-w l = l.at ≡ min (total (take l.w-index l.w-items)) l.cap
