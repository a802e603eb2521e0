-- The places found are those of the definition, `at` more, and so are the tests (NumberCases). Assumes nothing.
use Prim.Native.Nat.{ℕ, ◌+◌, ◌-◌}
use mathlib.Core.Path.{◌≡◌, sym, ap, ◌∙◌}
use mathlib.Core.Bool.{Bool, true, false, ◌||◌, cond}
use native.Mathlib.Omega.{arith}
use lib.ListN.{take, drop}
use lib.Dec.{eqb}
use mir.Val.{bool_byte}
use Rattle.predictive.specs.Grammar.{has}
use Rattle.classes.specs.Classes.{member}
use Rattle.aadl.specs.Bytes.{peek, is_exponent}
use Rattle.aadl.specs.Kinds.{INTEGER_LIT, REAL_LIT, #◌}
use Rattle.aadl.specs.Tokens.{span, number}
use Rattle.scan.proofs.NumberCases.{based-at}
use Rattle.scan.proofs.scan_based.Goals as goal
use Rattle.scan.proofs.scan_based.Goals.{then-real, else-real}

pub overflow_sub-result : goal.overflow_sub-result
overflow_sub-result c = omega (arith, c.requires.0, c.run_end-e.ensures.2, c.exponent.ensures.1)

-- one more place for the closing `#`
past : (e n : ℕ) (t : Bool) → n ≡ bool_byte t → e + n ≡ cond t (e + 1) e
past e n true h = ap (λ (k : ℕ). e + k) h
past e n false h = omega (arith, h)

pub returns : goal.returns
unfolding member
returns c =
    let a = c.args in
    let s = a.s.now in
    let e = c.run_end-e.result in
    let f = e + c.from.result in
    let hash : eqb c.peek-closed.result 35 ≡ eqb (peek s e) 35 = ap (λ b. eqb b 35) c.peek-closed.ensures in
    let x = c.in_class-x.ensures ∙ ap is_exponent c.peek.ensures in
    let real : (c.has_byte.result || c.in_class-x.result) ≡ _ = (λ j. c.has_byte.ensures j || x j) in
    let kind : c.if-real.result ≡ cond (has (take (e - a.i) (drop a.i s)) 46 || is_exponent (peek s f)) (# REAL_LIT) (# INTEGER_LIT) =
    elim c.if-real.branch [ then-real y ↦ rw (sym real ∙ y.if-real.true) y.result-is | else-real n ↦ rw (sym real ∙ n.if-real.false) n.result-is ] in
    (λ j. number (kind j) (c.exponent.ensures.0 j - a.at) (span 0 (a.i - 1 - a.at)) (span (a.i - a.at) (e - a.at)) (hash j) (x j))
    ∙ based-at s a.at a.i e f c.requires.0 c.run_end-e.ensures.0 (past e _ (eqb (peek s e) 35) (c.from.ensures ∙ ap bool_byte hash))
