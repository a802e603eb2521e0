-- Words that were filled are as many as were lent. Assumes nothing.
use Prim.Native.Nat.{ℕ}
use mathlib.Core.Path.{◌≡◌, ap, ◌∙◌}
use mathlib.Core.List.{List}
use lib.ListN.{length, replicate, length-replicate}
use Rattle.replay_lines.specs.Records.{old_word}

pub long : (j : ℕ) (ws : List ℕ) → ws ≡ replicate j old_word → length ws ≡ j
long j ws e = ap length e ∙ length-replicate j old_word
