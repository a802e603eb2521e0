-- What stands where the digits end tells the case of the definition (NumberCases). Each fact that more than one case uses is said once, of the
-- place behind the test for a C-style literal. Assumes nothing.
use Prim.Native.Nat.{ℕ, ◌-◌, ◌<◌}
use mathlib.Core.Path.{◌≡◌, sym, ap, ◌∙◌}
use mathlib.Core.Bool.{◌&&◌}
use mathlib.Core.List.{List}
use native.Mathlib.Omega.{arith}
use lib.ListN.{get_or, drop}
use lib.Seq.{get_or-drop}
use lib.Dec.{eqb}
use borrow.Author.Tests.{eq-eqb, ne_eqb}
use Rattle.aadl.specs.Bytes.{peek, is_ident_continue}
use Rattle.aadl.specs.Tokens.{radix_digit}
use Rattle.aadl.proofs.RunLaws.{run-rest}
use Rattle.cursor.specs.declared.Window.{Window}
use Rattle.classes.specs.Classes.{member}
use Rattle.scan.proofs.NumberCases.{Digits, digits-by_window, c_style-test, c_style-number, based-number, dotted-number, exponent-number, plain-number}
use Rattle.scan.proofs.number_from.Goals as goal

pub returns-then-is_c_style : goal.returns-then-is_c_style
unfolding member
returns-then-is_c_style c =
    let text : List ℕ = c.args.s.now in
    let at : ℕ = c.args.at in
    let end : ℕ = c.args.d in
    let window : Window = c.window_at-w.result in
    let end-from : at < end = c.requires.0 in
    let digits : Digits (text) (at) (end) window.first window.second = digits-by_window (text) (at) (end) (window) (end-from) c.window_at-w.ensures in
    let tested : c_style-test (digits) ≡ c.is_c_style.result = let first : peek (drop (at) (text)) 0 ≡ get_or (text) (at) 0 = get_or-drop (at) (text) 0 0 ∙ ap (peek (text)) (omega arith) in
    ap (λ (b : ℕ). (eqb (end - at) 1 && eqb b 48) && radix_digit window.first window.second) first ∙ sym c.is_c_style.ensures in
    let q = c.before in
    let r = c.run_end in
    let e = ap (λ (e : ℕ). e - at) r.ensures.0 ∙ run-rest is_ident_continue (text) (at) in
    c.unbased.ensures ∙ c_style-number (digits) (tested ∙ c.if-is_c_style.true) (r.result - at) e

pub returns-then-b-eq35 : goal.returns-then-b-eq35
returns-then-b-eq35 c =
    let text : List ℕ = c.args.s.now in
    let at : ℕ = c.args.at in
    let end : ℕ = c.args.d in
    let window : Window = c.window_at-w.result in
    let end-from : at < end = c.requires.0 in
    let digits : Digits (text) (at) (end) window.first window.second = digits-by_window (text) (at) (end) (window) (end-from) c.window_at-w.ensures in
    let tested : c_style-test (digits) ≡ c.is_c_style.result = let first : peek (drop (at) (text)) 0 ≡ get_or (text) (at) 0 = get_or-drop (at) (text) 0 0 ∙ ap (peek (text)) (omega arith) in
    ap (λ (b : ℕ). (eqb (end - at) 1 && eqb b 48) && radix_digit window.first window.second) first ∙ sym c.is_c_style.ensures in
    let q2 = c.before in
    let q1 = q2.before in
    let q = q1.before in
    c.scan_based.ensures ∙ based-number (digits) (tested ∙ q1.if-is_c_style.false) (eq-eqb _ 35 q2.if-b-eq35.true)

pub returns-then-b-c : goal.returns-then-b-c
unfolding member
returns-then-b-c c =
    let text : List ℕ = c.args.s.now in
    let at : ℕ = c.args.at in
    let end : ℕ = c.args.d in
    let window : Window = c.window_at-w.result in
    let end-from : at < end = c.requires.0 in
    let digits : Digits (text) (at) (end) window.first window.second = digits-by_window (text) (at) (end) (window) (end-from) c.window_at-w.ensures in
    let tested : c_style-test (digits) ≡ c.is_c_style.result = let first : peek (drop (at) (text)) 0 ≡ get_or (text) (at) 0 = get_or-drop (at) (text) 0 0 ∙ ap (peek (text)) (omega arith) in
    ap (λ (b : ℕ). (eqb (end - at) 1 && eqb b 48) && radix_digit window.first window.second) first ∙ sym c.is_c_style.ensures in
    let q3 = c.before in
    let q2 = q3.before in
    let q1 = q2.before in
    let q = q1.before in
    let e = c.run_end-then-b-c in
    c.scan_real.ensures ∙ dotted-number (digits) (tested ∙ q1.if-is_c_style.false) (ne_eqb _ 35 q2.if-b-eq35.false) q3.if-b-c.true e.result e.ensures.0

pub returns-then-in_class : goal.returns-then-in_class
unfolding member
returns-then-in_class c =
    let text : List ℕ = c.args.s.now in
    let at : ℕ = c.args.at in
    let end : ℕ = c.args.d in
    let window : Window = c.window_at-w.result in
    let end-from : at < end = c.requires.0 in
    let digits : Digits (text) (at) (end) window.first window.second = digits-by_window (text) (at) (end) (window) (end-from) c.window_at-w.ensures in
    let tested : c_style-test (digits) ≡ c.is_c_style.result = let first : peek (drop (at) (text)) 0 ≡ get_or (text) (at) 0 = get_or-drop (at) (text) 0 0 ∙ ap (peek (text)) (omega arith) in
    ap (λ (b : ℕ). (eqb (end - at) 1 && eqb b 48) && radix_digit window.first window.second) first ∙ sym c.is_c_style.ensures in
    let q4 = c.before in
    let q3 = q4.before in
    let q2 = q3.before in
    let q1 = q2.before in
    let q = q1.before in
    c.scan_real-then-in_class.ensures
    ∙ exponent-number (digits) (tested ∙ q1.if-is_c_style.false) (ne_eqb _ 35 q2.if-b-eq35.false) q3.if-b-c.false (sym q4.in_class.ensures ∙ q4.if-in_class.true)

pub returns : goal.returns
unfolding member
returns c =
    let text : List ℕ = c.args.s.now in
    let at : ℕ = c.args.at in
    let end : ℕ = c.args.d in
    let window : Window = c.window_at-w.result in
    let end-from : at < end = c.requires.0 in
    let digits : Digits (text) (at) (end) window.first window.second = digits-by_window (text) (at) (end) (window) (end-from) c.window_at-w.ensures in
    let tested : c_style-test (digits) ≡ c.is_c_style.result = let first : peek (drop (at) (text)) 0 ≡ get_or (text) (at) 0 = get_or-drop (at) (text) 0 0 ∙ ap (peek (text)) (omega arith) in
    ap (λ (b : ℕ). (eqb (end - at) 1 && eqb b 48) && radix_digit window.first window.second) first ∙ sym c.is_c_style.ensures in
    let q4 = c.before in
    let q3 = q4.before in
    let q2 = q3.before in
    let q1 = q2.before in
    let q = q1.before in
    c.scan_integer.ensures
    ∙ plain-number (digits) (tested ∙ q1.if-is_c_style.false) (ne_eqb _ 35 q2.if-b-eq35.false) q3.if-b-c.false (sym q4.in_class.ensures ∙ q4.if-in_class.false)
