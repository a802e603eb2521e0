-- The line goes on behind the `--` (FirstByte). Assumes nothing.
use Prim.Native.Nat.{ℕ, ◌-◌}
use mathlib.Core.Path.{ap, ◌∙◌}
use Rattle.aadl.specs.Kinds.{#◌, COMMENT}
use Rattle.aadl.specs.Tokens.{token}
use Rattle.scan.proofs.FirstByte.{comment-token}
use Rattle.scan.proofs.scan_comment.Goals as goal

pub returns : goal.returns
returns c =
    let q = c.before in
    c.token.ensures ∙ ap (λ (e : ℕ). token (# COMMENT) (e - q.args.at)) c.next_byte.ensures.0 ∙ comment-token q.args.s.now q.args.at q.requires
