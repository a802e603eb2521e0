-- What is found so far, or is found in the words from there on, is what is found in all. Assumes nothing.
use Prim.Native.Nat.{ℕ, suc, ◌+◌, ◌-◌, ◌<◌, min}
use mathlib.Core.Path.{◌≡◌, ◌∙◌, sym, ap}
use mathlib.Core.Bool.{◌||◌}
use native.Mathlib.Omega.{arith}
use lib.ListN.{length, take, drop}
use lib.Dec.{leb}
use Rattle.std.proofs.lemmas.List.{take_min}
use Rattle.aadl.specs.Encoding.{class_in, first_words}
use Rattle.aadl.proofs.EventPairs.{first_words-take}
use Rattle.section.proofs.CleanLaws.{erring-words, error-from, error-done}
use Rattle.section.proofs.any_error.Goals as goal

pub loop-i-preserved : goal.loop-i-preserved
loop-i-preserved c =
    let l = c.loop-i in
    let n = c.min-told.result in
    let ws = first_words c.args.events.now in
    let here : l.i < length ws = omega (arith, c.loop-i-test.true, c.min-told.ensures, c.events_told.ensures) in
    let more : n - l.i ≡ suc (n - (l.i + 1)) = omega (arith, c.loop-i-test.true) in
    ap (λ (k : ℕ). (l.found || leb 3 k) || erring-words (take (n - (l.i + 1)) (drop (l.i + 1) ws))) (c.class_in.ensures ∙ ap class_in c.first_word.ensures)
    ∙ sym (error-from (n - (l.i + 1)) l.i ws l.found here)
    ∙ ap (λ (k : ℕ). l.found || erring-words (take k (drop l.i ws))) (sym more)
    ∙ l.invariant

pub returns : goal.returns
returns c =
    let l = c.loop-i in
    let n = c.min-told.result in
    let ws = first_words c.args.events.now in
    let none : n - l.i ≡ 0 = omega (arith, c.loop-i-test.false) in
    let most : n ≡ min c.args.count (length ws) = omega (arith, c.min-told.ensures, c.events_told.ensures) in
    sym (error-done l.i ws l.found)
    ∙ ap (λ (k : ℕ). l.found || erring-words (take k (drop l.i ws))) (sym none)
    ∙ l.invariant
    ∙ ap (λ k. erring-words (take k ws)) most ∙ ap erring-words (take_min c.args.count ws ∙ sym (first_words-take c.args.count c.args.events.now))
