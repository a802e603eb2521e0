-- Where the run ends in the text, and in the number (NumberCases). Assumes nothing.
use Prim.Native.Nat.{ℕ, ◌-◌}
use mathlib.Core.Path.{ap, ◌∙◌}
use Rattle.classes.specs.Classes.{member}
use Rattle.aadl.specs.Bytes.{is_grouped}
use Rattle.aadl.specs.Tokens.{integer}
use Rattle.scan.proofs.NumberCases.{run-end_there}
use Rattle.scan.proofs.scan_integer.Goals as goal

pub returns : goal.returns
unfolding member
returns c =
    let q = c.before in
    let a = q.args in
    c.unbased.ensures ∙ ap integer (ap (λ (e : ℕ). e - a.at) c.run_end.ensures.0 ∙ run-end_there a.s.now a.at is_grouped a.d q.requires)
