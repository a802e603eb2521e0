-- The call, way by way (Answering): the tokens-only call refused, the parser stopped, or nothing is refused. The words that the
-- tokens-only call counted are within those lent, and are the text's. Assumes nothing.
use Rattle.std.proofs.Common.{rules}
use mathlib.Core.Path.{sym}
use native.Mathlib.Omega.{arith}
use lib.Seq.{length-take-le}
use Rattle.section.proofs.Sectioning.{sectioned}
use Rattle.section.proofs.Answering.{stopped-small, called-refused, passed-short, passed-fits, passed_words, called-stopped, called-answered}
use Rattle.section.proofs.property_section_within.Goals as goal

pub returns-then-a-ne0 : goal.returns-then-a-ne0
returns-then-a-ne0 c = called-refused c.tokenize_within-a.ensures c.args.events.now _ _ c.if-a-ne0.true c.refuse.ensures.0 c.refuse.ensures.1

pub slice_bounds-new-end : goal.slice_bounds-new-end
slice_bounds-new-end c = passed-fits c.tokenize_within-a.ensures c.if-a-ne0.false

pub slice_bounds-new-end-2 : goal.slice_bounds-new-end-2
slice_bounds-new-end-2 c = sym (length-take-le c.tokenize_within-a.result.tokens _ (passed-fits c.tokenize_within-a.ensures c.if-a-ne0.false))

pub overflow_cast-c : goal.overflow_cast-c
overflow_cast-c c =
    let t = c.tokenize_within-a.ensures in
    let n = c.if-a-ne0.false in
    let s = sectioned c.args.limits (passed-short t n c.requires) (passed_words t n) c.new-p.ensures c.read.ensures c.counters-c.ensures in
    omega (arith, stopped-small s c.if-c-ne0.true)

pub returns-then-c-ne0 : goal.returns-then-c-ne0
returns-then-c-ne0 c =
    let t = c.tokenize_within-a.ensures in
    let n = c.if-a-ne0.false in
    let s = sectioned c.args.limits (passed-short t n c.requires) (passed_words t n) c.new-p.ensures c.read.ensures c.counters-c.ensures in
    let r = c.refuse-then-c-ne0.ensures in
    called-stopped t n s _ _ _ (search rules) c.if-c-ne0.true r.0 c.tokenize_within-a.auto.tokens r.1 c.clear.ensures

pub returns : goal.returns
returns c =
    let t = c.tokenize_within-a.ensures in
    let n = c.if-a-ne0.false in
    let s = sectioned c.args.limits (passed-short t n c.requires) (passed_words t n) c.new-p.ensures c.read.ensures c.counters-c.ensures in
    called-answered t n s (search rules) c.if-c-ne0.false
