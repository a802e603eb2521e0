-- One byte at a turn: an underscore is passed, a digit below the base makes the number longer, any other digit ends the reading (Capping).
-- Assumes nothing.
use Prim.Native.Nat.{ℕ, ◌+◌, ◌*◌, ◌≤◌, min}
use native.Mathlib.Omega.{arith}
use mathlib.Core.Path.{◌≡◌, sym, ap, ◌∙◌}
use lib.ListN.{get_or, drop}
use Rattle.std.specs.Prelude.{Option}
use Rattle.std.specs.Char.{digit_value}
use borrow.Author.Tests.{eq-eqb, ne_eqb}
use Rattle.aadl.specs.Values.{digits}
use Rattle.int64.specs.Integers.{most}
use Rattle.literals.proofs.Capping.{goes_on, from_none, ended, passed, longer, broken}
use Rattle.literals.proofs.in_base.Goals as goal
use Rattle.literals.proofs.in_base.Goals.{then-b-ne95+in_ok-d, else-b-ne95}

pub loop-b-init : goal.loop-b-init
loop-b-init c = from_none c.args.base (digits c.args.part.now) (omega arith)

pub returns-in_err-d : goal.returns-in_err-d
returns-in_err-d c =
    let a = c.args in
    let l = c.loop-b in
    let other = ne_eqb (get_or a.part.now l.b-index 0) 95 c.if-b-ne95.true in
    let above : a.base ≤ digit_value (get_or a.part.now l.b-index 0) = omega (arith, ap digit_value c.from.ensures, c.in_err-d.ensures.value) in
    c.from_residual.ensures ∙ sym (broken a.base a.part.now l.b-index l.number c.loop-b-test.true other c.requires.1 above) ∙ l.invariant

pub loop-b-preserved : goal.loop-b-preserved
loop-b-preserved c =
    let a = c.args in
    let l = c.loop-b in
    elim c.if-b-ne95.branch [
      | then-b-ne95+in_ok-d u ↦
          let other = ne_eqb (get_or a.part.now l.b-index 0) 95 u.if-b-ne95.true in
          let digit : u.in_ok-d.d ≡ digit_value (get_or a.part.now l.b-index 0) = u.in_ok-d.ensures.value.1 ∙ ap digit_value u.from.ensures in
          let appended = u.append.ensures ∙ ap (λ (n : ℕ). min (n * a.base + u.in_ok-d.d) most) u.unwrap_or.ensures in
          ap (λ (o : Option ℕ). goes_on a.base o (digits (drop (l.b-index + 1) a.part.now))) u.number-is
          ∙ sym (longer a.base a.part.now l.b-index l.number c.loop-b-test.true u.in_ok-d.d u.append.result other c.requires.1 (omega (arith, u.in_ok-d.ensures.value)) digit appended)
          ∙ l.invariant
      | else-b-ne95 u ↦
          ap (λ (o : Option ℕ). goes_on a.base o (digits (drop (l.b-index + 1) a.part.now))) u.number-is
          ∙ sym (passed a.base a.part.now l.b-index l.number c.loop-b-test.true (eq-eqb (get_or a.part.now l.b-index 0) 95 u.if-b-ne95.false))
          ∙ l.invariant
    ]

pub returns : goal.returns
returns c =
    let l = c.loop-b in
    sym (ended c.args.base c.args.part.now l.b-index l.number (omega arith)) ∙ l.invariant
