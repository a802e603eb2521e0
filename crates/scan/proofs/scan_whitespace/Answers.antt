-- The run goes on from the second byte (FirstByte). Assumes nothing.
use Prim.Native.Nat.{ℕ, ◌-◌}
use mathlib.Core.Path.{ap, ◌∙◌}
use Rattle.aadl.specs.Kinds.{#◌, WHITESPACE}
use Rattle.aadl.specs.Tokens.{token}
use Rattle.classes.specs.Classes.{member}
use Rattle.scan.proofs.FirstByte.{white-token}
use Rattle.scan.proofs.scan_whitespace.Goals as goal

pub returns : goal.returns
unfolding member
returns c = c.token.ensures ∙ ap (λ (e : ℕ). token (# WHITESPACE) (e - c.args.at)) c.run_end.ensures.0 ∙ white-token c.args.s.now c.args.at c.requires
