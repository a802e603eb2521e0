-- The two lines, one after the other (writing, WriteLaws). Assumes nothing.
use Prim.Native.Nat.{ℕ}
use mathlib.Core.Path.{ap}
use mathlib.Core.List.{[], ◌∷◌}
use Rattle.aadl.specs.Words.{bytes}
use Rattle.writing.proofs.WriteLaws.{writes_then, writes-same}
use Rattle.replay_lines.specs.Records.{line, more_lines}
use Rattle.replay_lines.proofs.put_more.Goals as goal

pub returns : goal.returns
unfolding more_lines
returns c = writes_then c.put_line.ensures (writes-same c.put_row.ensures (ap (λ (n : ℕ). line (bytes "left") (n ∷ [])) c.rest_of.ensures))
