-- The byte behind the digits rules all cases out but one, or `number_from` goes through them (NumberCases). Assumes nothing.
use Prim.Native.Nat.{ℕ, ◌+◌, ◌-◌, ◌<◌}
use mathlib.Core.Path.{◌≡◌, sym, ap, ◌∙◌}
use mathlib.Core.Bool.{Bool, true, false, not, ◌&&◌, ◌||◌}
use mathlib.Core.List.{List}
use native.Mathlib.Omega.{arith}
use lib.ListN.{drop}
use lib.Dec.{eqb}
use borrow.Author.Tests.{eqb-true}
use Rattle.predictive.proofs.Tests.{and_l, and_false_r}
use Rattle.aadl.specs.Bytes.{peek, is_digit, is_ident_continue}
use Rattle.aadl.specs.Tokens.{radix_digit, number_from, number_of}
use Rattle.aadl.proofs.RunLaws.{run-end_from}
use Rattle.cursor.specs.declared.Window.{Window}
use Rattle.classes.specs.Classes.{member}
use Rattle.scan.proofs.FirstByte.{digit-run}
use Rattle.scan.proofs.NumberCases.{Digits, digits-by_window, whole, c_style-test, dotted-number, plain-number, integer-behind}
use Rattle.scan.proofs.scan_number.Goals as goal

pub scan_real-requires : goal.scan_real-requires
unfolding member
scan_real-requires c =
    let text : List ℕ = c.args.s.now in
    let end : ℕ = c.run_end-d.result in
    let at : ℕ = c.args.at in
    let end-from : at < end = omega (arith, c.run_end-d.ensures.0, run-end_from is_digit (text) (at + 1)) in
    let q = c.before in
    omega (arith, c.run_end.ensures.0, run-end_from is_digit (text) (end + 1), end-from)

pub returns-then-b-w : goal.returns-then-b-w
unfolding member number_of
returns-then-b-w c =
    let window : Window = c.window_at-w.result in
    let text : List ℕ = c.args.s.now in
    let at : ℕ = c.args.at in
    let end : ℕ = c.run_end-d.result in
    let end-from : at < end = omega (arith, c.run_end-d.ensures.0, run-end_from is_digit (text) (at + 1)) in
    let digits : Digits (text) (at) (end) window.first window.second = digits-by_window (text) (at) (end) (window) (end-from) c.window_at-w.ensures in
    let counted : whole (digits) ≡ number_of (drop (at) (text)) = let h = c.requires in
    ap (number_from (drop (at) (text))) (ap (λ (e : ℕ). e - at) c.run_end-d.ensures.0 ∙ digit-run (text) (at) h) in
    let no_c_style : radix_digit window.first window.second ≡ false → c_style-test (digits) ≡ false = λ e. and_false_r (eqb (end - at) 1 && eqb (peek (drop (at) (text)) 0) 48) (radix_digit window.first window.second) e in
    let dot : window.first ≡ 46 = let w = window in eqb-true w.first 46 (and_l (eqb w.first 46) (not (eqb w.second 46)) c.if-b-w.true) in
    let q1 = c.before in
    let q = q1.before in
    let e = c.run_end in
    let mark = dot in
    c.scan_real.ensures
    ∙ dotted-number (digits) (no_c_style (ap (λ (m : ℕ). radix_digit m window.second) mark)) (ap (λ (m : ℕ). eqb m 35) mark) q1.if-b-w.true e.result e.ensures.0
    ∙ counted

pub scan_integer-requires : goal.scan_integer-requires
unfolding member
scan_integer-requires c =
    let text : List ℕ = c.args.s.now in
    let at : ℕ = c.args.at in
    let end : ℕ = c.run_end-d.result in
    let end-from : at < end = omega (arith, c.run_end-d.ensures.0, run-end_from is_digit (text) (at + 1)) in
    let q = c.before in (omega (arith, end-from))

pub returns-then-b-in_class : goal.returns-then-b-in_class
unfolding member number_of
returns-then-b-in_class c =
    let window : Window = c.window_at-w.result in
    let text : List ℕ = c.args.s.now in
    let at : ℕ = c.args.at in
    let end : ℕ = c.run_end-d.result in
    let end-from : at < end = omega (arith, c.run_end-d.ensures.0, run-end_from is_digit (text) (at + 1)) in
    let digits : Digits (text) (at) (end) window.first window.second = digits-by_window (text) (at) (end) (window) (end-from) c.window_at-w.ensures in
    let counted : whole (digits) ≡ number_of (drop (at) (text)) = let h = c.requires in
    ap (number_from (drop (at) (text))) (ap (λ (e : ℕ). e - at) c.run_end-d.ensures.0 ∙ digit-run (text) (at) h) in
    let no_c_style : radix_digit window.first window.second ≡ false → c_style-test (digits) ≡ false = λ e. and_false_r (eqb (end - at) 1 && eqb (peek (drop (at) (text)) 0) 48) (radix_digit window.first window.second) e in
    let q2 = c.before in
    let q1 = q2.before in
    let q = q1.before in
    let m = window.first in
    let word : (eqb m 95 || not (is_ident_continue m || eqb m 35)) ≡ true = ap (λ (w : Bool). eqb m 95 || not (w || eqb m 35)) (sym q2.in_class.ensures) ∙ q2.if-b-in_class.true in
    let none = integer-behind m window.second word in
    c.scan_integer.ensures ∙ plain-number (digits) (no_c_style none.0) none.1 q1.if-b-w.false none.2 ∙ counted

pub number_from-requires : goal.number_from-requires
unfolding member
number_from-requires c =
    let text : List ℕ = c.args.s.now in
    let at : ℕ = c.args.at in
    let end : ℕ = c.run_end-d.result in
    let end-from : at < end = omega (arith, c.run_end-d.ensures.0, run-end_from is_digit (text) (at + 1)) in
    let q = c.before in (omega (arith, end-from), omega (arith, q.run_end-d.ensures.1, q.requires.inside))

pub returns : goal.returns
unfolding member number_of
returns c =
    let text : List ℕ = c.args.s.now in
    let at : ℕ = c.args.at in
    let end : ℕ = c.run_end-d.result in
    let window : Window = c.window_at-w.result in
    let end-from : at < end = omega (arith, c.run_end-d.ensures.0, run-end_from is_digit (text) (at + 1)) in
    let digits : Digits (text) (at) (end) window.first window.second = digits-by_window (text) (at) (end) (window) (end-from) c.window_at-w.ensures in
    let counted : whole (digits) ≡ number_of (drop (at) (text)) = let h = c.requires in
    ap (number_from (drop (at) (text))) (ap (λ (e : ℕ). e - at) c.run_end-d.ensures.0 ∙ digit-run (text) (at) h) in
    c.number_from.ensures ∙ counted
