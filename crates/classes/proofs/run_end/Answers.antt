-- The run from `end` on ends where the run from `from` ends, which is at the first byte outside the class or behind the text. Assumes nothing.
use native.Mathlib.Omega.{arith}
use mathlib.Core.Path.{◌≡◌, sym, ◌∙◌}
use Rattle.aadl.proofs.RunLaws.{run_more, run-stop, run-over}
use Rattle.classes.proofs.run_end.Goals as goal

pub returns-then-not-in_class : goal.returns-then-not-in_class
returns-then-not-in_class c =
    let l = c.loop-end in
    (sym (run-stop _ _ _ c.loop-end-test.true (sym c.in_class.ensures ∙ c.if-not-in_class.true)) ∙ l.invariant.0, l.invariant.1, l.auto.end)

pub loop-end-preserved : goal.loop-end-preserved
loop-end-preserved c =
    (sym (run_more _ _ _ c.loop-end-test.true (sym c.in_class.ensures ∙ c.if-not-in_class.false)) ∙ c.loop-end.invariant.0, omega arith)

pub returns : goal.returns
returns c =
    let l = c.loop-end in
    let i : c.max.result ≡ l.end = omega (arith, l.invariant.1) in
    (i ∙ sym (run-over _ _ _ c.loop-end-test.false) ∙ l.invariant.0, omega arith, omega arith)
