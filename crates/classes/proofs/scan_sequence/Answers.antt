-- The rows that were tried did not fit, and one of the last did: what the tests of one length say of their rows, then each return.
-- Assumes nothing.
use mathlib.Core.Path.{◌≡◌, refl, sym, ◌∙◌}
use mathlib.Core.Bool.{◌||◌}
use Rattle.aadl.specs.Utf8.{table_3_7}
use Rattle.classes.proofs.Rows.{fit, by_length}
use Rattle.classes.proofs.scan_sequence.Goals as goal

pub returns-then-begins : goal.returns-then-begins
unfolding table_3_7
returns-then-begins c =
    let s = c.args.s.now in
    let one : fit 0 s ≡ c.begins.result = sym c.begins.ensures in
    sym (by_length s ∙ rw (one ∙ c.if-begins.true) refl)

pub returns-then-begins-2 : goal.returns-then-begins-2
unfolding table_3_7
returns-then-begins-2 c =
    let s = c.args.s.now in
    let one : fit 0 s ≡ c.begins.result = sym c.begins.ensures in
    let two : fit 1 s ≡ c.begins-2.result = sym c.begins-2.ensures in
    sym (by_length s ∙ rw (one ∙ c.if-begins.false, two ∙ c.if-begins-2.true) refl)

pub returns-then-begins-3 : goal.returns-then-begins-3
unfolding table_3_7
returns-then-begins-3 c =
    let s = c.args.s.now in
    let one : fit 0 s ≡ c.begins.result = sym c.begins.ensures in
    let two : fit 1 s ≡ c.begins-2.result = sym c.begins-2.ensures in
    let three : (((fit 2 s || fit 3 s) || fit 4 s) || fit 5 s) ≡ (((c.begins-3.result || c.begins-4.result) || c.begins-5.result) || c.begins-6.result) =
    sym (λ i. ((c.begins-3.ensures i || c.begins-4.ensures i) || c.begins-5.ensures i) || c.begins-6.ensures i) in
    sym (by_length s ∙ rw (one ∙ c.if-begins.false, two ∙ c.if-begins-2.false, three ∙ c.if-begins-3.true) refl)

pub returns-then-begins-4 : goal.returns-then-begins-4
unfolding table_3_7
returns-then-begins-4 c =
    let s = c.args.s.now in
    let one : fit 0 s ≡ c.begins.result = sym c.begins.ensures in
    let two : fit 1 s ≡ c.begins-2.result = sym c.begins-2.ensures in
    let three : (((fit 2 s || fit 3 s) || fit 4 s) || fit 5 s) ≡ (((c.begins-3.result || c.begins-4.result) || c.begins-5.result) || c.begins-6.result) =
    sym (λ i. ((c.begins-3.ensures i || c.begins-4.ensures i) || c.begins-5.ensures i) || c.begins-6.ensures i) in
    let four : ((fit 6 s || fit 7 s) || fit 8 s) ≡ ((c.begins-7.result || c.begins-8.result) || c.begins-9.result) =
    sym (λ i. (c.begins-7.ensures i || c.begins-8.ensures i) || c.begins-9.ensures i) in
    sym (by_length s ∙ rw (one ∙ c.if-begins.false, two ∙ c.if-begins-2.false, three ∙ c.if-begins-3.false, four ∙ c.if-begins-4.true) refl)

pub returns : goal.returns
unfolding table_3_7
returns c =
    let s = c.args.s.now in
    let one : fit 0 s ≡ c.begins.result = sym c.begins.ensures in
    let two : fit 1 s ≡ c.begins-2.result = sym c.begins-2.ensures in
    let three : (((fit 2 s || fit 3 s) || fit 4 s) || fit 5 s) ≡ (((c.begins-3.result || c.begins-4.result) || c.begins-5.result) || c.begins-6.result) =
    sym (λ i. ((c.begins-3.ensures i || c.begins-4.ensures i) || c.begins-5.ensures i) || c.begins-6.ensures i) in
    let four : ((fit 6 s || fit 7 s) || fit 8 s) ≡ ((c.begins-7.result || c.begins-8.result) || c.begins-9.result) =
    sym (λ i. (c.begins-7.ensures i || c.begins-8.ensures i) || c.begins-9.ensures i) in
    sym (by_length s ∙ rw (one ∙ c.if-begins.false, two ∙ c.if-begins-2.false, three ∙ c.if-begins-3.false, four ∙ c.if-begins-4.false) refl)
