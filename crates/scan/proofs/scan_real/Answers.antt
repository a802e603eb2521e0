-- The byte where the digits end tells of an exponent; places in the text are those of the definition, `at` more (NumberCases). Assumes nothing.
use Prim.Native.Nat.{◌-◌}
use mathlib.Core.Path.{◌≡◌, ap, ◌∙◌}
use Rattle.classes.specs.Classes.{member}
use Rattle.aadl.specs.Bytes.{peek, is_exponent}
use Rattle.aadl.specs.Kinds.{REAL_LIT, #◌}
use Rattle.aadl.specs.Tokens.{unbased}
use Rattle.scan.proofs.NumberCases.{real-at}
use Rattle.scan.proofs.scan_real.Goals as goal

pub returns : goal.returns
unfolding member
returns c =
    let q = c.before in
    let a = q.args in
    let x : c.in_class-x.result ≡ is_exponent (peek a.s.now a.e) = c.in_class-x.ensures ∙ ap is_exponent c.peek.ensures in
    c.unbased.ensures ∙ (λ j. unbased (# REAL_LIT) (c.exponent.ensures.0 j - a.at) (a.e - a.at) (x j)) ∙ real-at a.s.now a.at a.e q.requires
