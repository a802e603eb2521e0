-- The call, way by way (Calling): the section call refused, there is no value, or there is one. The words that the section call counted are within
-- those lent, and are the text's. Assumes nothing.
use native.Mathlib.Omega.{arith}
use mathlib.Core.Path.{◌≡◌, sym, ap, subst, ◌∙◌}
use lib.Seq.{length-take-le}
use lib.IntN.{ℤ, pos}
use mir.Syntax.{w64}
use mir.Val.{to_z, of_z}
use mir.ValLaws.{to_z-of_z}
use borrow.Author.Rules.{rules}
use Rattle.aadl.specs.declared.Answer.{Answer}
use Rattle.aadl.specs.Encoding.{words_for}
use Rattle.aadl.specs.ValueCall.{with_value, value_refused}
use Rattle.aadl.specs.Promises.{ValueCalled}
use Rattle.section.proofs.Unrefused.{all-passed, all-counted, tokens-fit, events-fit}
use Rattle.value.proofs.Calling.{called-refused, was_read, called-judged, called-valued}
use Rattle.value.proofs.association_value_within.Goals as goal

pub returns-then-a-ne0 : goal.returns-then-a-ne0
returns-then-a-ne0 c = called-refused c.property_section_within-a.ensures c.args.number c.if-a-ne0.true

pub slice_bounds-judge-end : goal.slice_bounds-judge-end
slice_bounds-judge-end c = tokens-fit c.property_section_within-a.ensures c.if-a-ne0.false

pub slice_bounds-judge-end-2 : goal.slice_bounds-judge-end-2
slice_bounds-judge-end-2 c =
    let w = c.property_section_within-a in
    sym (length-take-le w.result.tokens w.new.tokens (tokens-fit w.ensures c.if-a-ne0.false))

pub overflow_mul-a : goal.overflow_mul-a
overflow_mul-a c =
    let w = c.property_section_within-a in
    omega (arith, ap (λ (a : Answer). a.events) (all-counted w.ensures c.if-a-ne0.false), (all-passed w.ensures c.if-a-ne0.false).few)

pub slice_bounds-judge-end-3 : goal.slice_bounds-judge-end-3
slice_bounds-judge-end-3 c = events-fit c.property_section_within-a.ensures c.if-a-ne0.false

pub slice_bounds-judge-end-4 : goal.slice_bounds-judge-end-4
slice_bounds-judge-end-4 c =
    let w = c.property_section_within-a in
    sym (length-take-le (words_for w.result.events) w.new.events (events-fit w.ensures c.if-a-ne0.false))

pub judge-requires : goal.judge-requires
judge-requires c =
    let w = c.property_section_within-a in
    let a = c.args in
    (a.limits, was_read w.ensures a.number c.if-a-ne0.false c.requires c.is_clean-clean.result c.is_clean-clean.ensures)

pub returns-in-Err : goal.returns-in-Err
returns-in-Err c =
    let w = c.property_section_within-a in
    let a = c.args in
    let read = was_read w.ensures a.number c.if-a-ne0.false c.requires c.is_clean-clean.result c.is_clean-clean.ensures in
    let told = c.refusal-refused.ensures in
    let r = c.refuse in
    called-judged w.ensures a.number c.if-a-ne0.false (c.in-Err.ensures a.limits read) (with_value r.result (pos 0)) r.new.tokens c.clear.new.words
    (ap (λ (a : Answer). with_value a (pos 0)) r.ensures.0 ∙ λ i. value_refused (told.0 i) (told.1 i)) w.auto.tokens w.auto.events r.ensures.1 c.clear.ensures

pub returns-in-Ok : goal.returns-in-Ok
returns-in-Ok c =
    let w = c.property_section_within-a in
    let a = c.args in
    let read = was_read w.ensures a.number c.if-a-ne0.false c.requires c.is_clean-clean.result c.is_clean-clean.ensures in
    let v = c.in-Ok.value in
    let back : to_z w64 (of_z w64 v) ≡ v = to_z-of_z w64 v (search rules) in
    let y = called-valued w.ensures a.number c.if-a-ne0.false (c.in-Ok.ensures a.limits read) in
    subst (λ (z : ℤ). ValueCalled a.limits a.src.now a.tokens.now a.events.now a.number (with_value w.result z) w.new.tokens w.new.events) (sym back) y
