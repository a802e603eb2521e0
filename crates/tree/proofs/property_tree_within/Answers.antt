-- The call, way by way (Calling): the section call refused, a node has no record, or every node has one. The words that the section call
-- counted are within those lent, and are the text's. Assumes nothing.
use native.Mathlib.Omega.{arith}
use mathlib.Core.Path.{sym, ap, ◌∙◌}
use lib.Seq.{length-take-le}
use Rattle.aadl.specs.declared.Answer.{Answer}
use Rattle.aadl.specs.Encoding.{words_for}
use Rattle.aadl.specs.Records.{with_records}
use Rattle.section.proofs.Unrefused.{passed-short, tokens-fit, token_words-counted, events-fit}
use Rattle.tree.proofs.Calling.{called-refused, events-stand, called-full, called-built}
use Rattle.tree.proofs.property_tree_within.Goals as goal

pub returns-then-a-ne0 : goal.returns-then-a-ne0
returns-then-a-ne0 c =
    let gone = c.without_records in
    called-refused c.property_section_within-a.ensures gone.result c.args.records.now gone.new.records c.if-a-ne0.true gone.ensures.0 gone.ensures.1

pub overflow_mul-a : goal.overflow_mul-a
overflow_mul-a c =
    record { fits = omega (arith, c.well_formed, c.property_section_within-a.auto.events, events-fit c.property_section_within-a.ensures c.if-a-ne0.false) }

pub slice_bounds-build-end : goal.slice_bounds-build-end
slice_bounds-build-end c = events-fit c.property_section_within-a.ensures c.if-a-ne0.false

pub slice_bounds-build-end-2 : goal.slice_bounds-build-end-2
slice_bounds-build-end-2 c =
    let made = c.property_section_within-a in
    sym (length-take-le (words_for made.result.events) made.new.events (events-fit made.ensures c.if-a-ne0.false))

pub build-requires : goal.build-requires
build-requires c = events-stand c.property_section_within-a.ensures c.if-a-ne0.false

pub slice_bounds-token_place-end : goal.slice_bounds-token_place-end
slice_bounds-token_place-end c = tokens-fit c.property_section_within-a.ensures c.if-a-ne0.false

pub slice_bounds-token_place-end-in-Err : goal.slice_bounds-token_place-end-in-Err
slice_bounds-token_place-end-in-Err c =
    let made = c.property_section_within-a in
    sym (length-take-le made.result.tokens made.new.tokens (tokens-fit made.ensures c.if-a-ne0.false))

pub token_place-place-requires : goal.token_place-place-requires
token_place-place-requires c =
    let made = c.property_section_within-a.ensures in
    (passed-short made c.if-a-ne0.false c.requires, token_words-counted made c.if-a-ne0.false)

pub returns-in-Err : goal.returns-in-Err
returns-in-Err c =
    let made = c.property_section_within-a in
    let place = c.token_place-place in
    let refused = c.refuse in
    let gone = c.without_records-in-Err in
    called-full made.ensures c.if-a-ne0.false c.in-Err.ensures gone.result place.result refused.new.tokens c.clear.new.words gone.new.records
    place.ensures (gone.ensures.0 ∙ ap (λ (a : Answer). with_records a 0) refused.ensures.0) made.auto.tokens made.auto.events
    refused.ensures.1 c.clear.ensures gone.ensures.1

pub returns-in-Ok : goal.returns-in-Ok
returns-in-Ok c = called-built c.property_section_within-a.ensures c.if-a-ne0.false c.in-Ok.ensures
