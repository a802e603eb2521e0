-- Each return is a case of the definition. A byte that a test passes stands within the text, so that no sum wraps. Assumes nothing.
-- an exponent's letter stands at the place
use Prim.Native.Nat.{◌+◌}
use mathlib.Core.Path.{◌≡◌, refl, sym, ap, ◌∙◌}
use mathlib.Core.Bool.{true, false}
use native.Mathlib.Omega.{arith}
use Rattle.aadl.specs.Bytes.{peek, is_exponent, is_sign}
use Rattle.aadl.specs.Tokens.{exponent_end}
use Rattle.aadl.proofs.TokenBounds.{inside}
use Rattle.classes.specs.Classes.{member}
use Rattle.scan.proofs.exponent.Goals as goal

pub overflow_add-i : goal.overflow_add-i
unfolding member
overflow_add-i c =
    let letter : let a = c.args in is_exponent (peek a.s.now a.i) ≡ true = ap is_exponent (sym c.peek.ensures) ∙ sym c.in_class.ensures ∙ c.if-in_class.true in
    let a = c.args in omega (arith, inside is_exponent refl a.s.now a.i (letter))

pub returns-then-b : goal.returns-then-b
unfolding exponent_end member
returns-then-b c =
    let letter : let a = c.args in is_exponent (peek a.s.now a.i) ≡ true = ap is_exponent (sym c.peek.ensures) ∙ sym c.in_class.ensures ∙ c.if-in_class.true in
    let sign : let a = c.args in is_sign (peek a.s.now (a.i + 1)) ≡ is_sign c.peek-b.result = ap is_sign (sym c.peek-b.ensures) in
    rw (letter, sign ∙ c.if-b.true) (c.run_end.ensures.0, omega (arith, c.run_end.ensures.2))

pub overflow_add-i-then-in_class : goal.overflow_add-i-then-in_class
unfolding member
overflow_add-i-then-in_class c =
    let letter : let a = c.args in is_exponent (peek a.s.now a.i) ≡ true = ap is_exponent (sym c.peek.ensures) ∙ sym c.in_class.ensures ∙ c.if-in_class.true in
    let a = c.args in omega (arith, inside is_exponent refl a.s.now a.i (letter))

pub returns-then-in_class : goal.returns-then-in_class
unfolding exponent_end member
returns-then-in_class c =
    let letter : let a = c.args in is_exponent (peek a.s.now a.i) ≡ true = ap is_exponent (sym c.peek.ensures) ∙ sym c.in_class.ensures ∙ c.if-in_class.true in
    let sign : let a = c.args in is_sign (peek a.s.now (a.i + 1)) ≡ is_sign c.peek-b.result = ap is_sign (sym c.peek-b.ensures) in
    rw (letter, sign ∙ c.if-b.false) (c.run_end-then-in_class.ensures.0, omega (arith, c.run_end-then-in_class.ensures.2))

pub returns : goal.returns
unfolding exponent_end member
returns c =
    let a = c.args in
    let e : is_exponent (peek a.s.now a.i) ≡ false = ap is_exponent (sym c.peek.ensures) ∙ sym c.in_class.ensures ∙ c.if-in_class.false in
    rw e (refl, omega arith)
