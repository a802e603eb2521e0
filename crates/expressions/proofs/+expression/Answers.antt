-- The cycle of readers: an operand may hold an expression, with one opener fewer left. One law for each statement (Parsers, Levels), the first
-- token by Operands. Assumes nothing.
use native.Mathlib.Omega.{arith}
use mathlib.Core.Path.{refl, sym, ◌∙◌}
use mathlib.Core.Logic.{⊎_elim}
use lib.Dec.{eqb}
use borrow.Author.Tests.{eqb-true}
use Rattle.predictive.proofs.Tests.{or_l, or_r, or_cases}
use Rattle.predictive.specs.Forest.{refusal}
use Rattle.predictive.specs.Grammar.{free}
use Rattle.predictive.specs.Reader.{ones, first, null, take_one, take_any, take_wrong, step, read}
use Rattle.predictive.proofs.Takes.{takes}
use Rattle.aadl.specs.Section.{Expression, Operand, names, keywords, record_field}
use Rattle.parser.specs.Parsers.{source, counters}
use Rattle.parser.proofs.Parsers.{same as unmoved, same_then, read_left, r-opt_yes, r-opt_no, r-until, r-until_at_once, r-rule, r-deep, bumped_after, w-left, w-holds, w-less, w-done, o-reads, o_none, o_opens, x-none, c-none, c-holds, c-less, c-done}
use Rattle.parser.proofs.Levels.{started-left, preceded_left, completed-left, seq-at, inside-at, node_at, again_at, link_at, turn_at, same}
use Rattle.expressions.proofs.Alone.{no_suffix, no_operator}
use Rattle.expressions.proofs.Operands.{r-negated, arm, none-begins, sign-else, opener_operand, single-operand, single-product, single-sum, factor, term, next-item}
use Prim.Native.Nat.{suc}
use Rattle.expressions.proofs.+expression.Goals as goal

pub additive_expression-sum-requires : goal.additive_expression-sum-requires
additive_expression-sum-requires t c = (omega (arith, read_left (o-reads c.multiplicative_expression-lhs.ensures)), tt)

pub delta-additive_expression-requires : goal.delta-additive_expression-requires
delta-additive_expression-requires t c = (omega (arith, read_left (c.bump.ensures 0), started-left c.start-m.ensures), tt)

pub delta-returns-then-at : goal.delta-returns-then-at
unfolding first null ones
delta-returns-then-at t c =
    λ o. r-opt_yes (sym c.at.ensures ∙ c.if-at.true)
    (inside-at same c.start-m.ensures (seq-at same (c.bump.ensures _) (o-reads c.additive_expression.ensures)) c.complete.ensures)

pub delta-returns-else-at : goal.delta-returns-else-at
unfolding first null ones
delta-returns-else-at t c = λ o. r-opt_no (sym c.at.ensures ∙ c.if-at.false)

pub expr-returns-else-at : goal.expr-returns-else-at
unfolding first null ones
expr-returns-else-at t c =
    record {
      on = λ p₀ x. no_suffix single-sum (c.sum-lhs.ensures.on p₀ (c.product-lhs.ensures.on p₀ x)) (sym c.at.ensures ∙ c.if-at.false);
      same = same_then c.product-lhs.ensures.same c.sum-lhs.ensures.same;
    }

pub list_value-returns-then-at : goal.list_value-returns-then-at
unfolding first null ones
list_value-returns-then-at t c =
    node_at suc c.start-m.ensures
    (seq-at suc (c.bump.ensures _) (r-until_at_once (sym c.at.ensures ∙ c.if-at.true) (c.bump-then-at.ensures _)))
    c.complete.ensures

pub list_value-property_expression-requires : goal.list_value-property_expression-requires
list_value-property_expression-requires t c = (omega (arith, read_left (c.bump.ensures 0), started-left c.start-m.ensures), tt)

pub list_value-loop-p-init : goal.list_value-loop-p-init
list_value-loop-p-init t c = w-holds

pub list_value-property_expression-requires-in-loop-p : goal.list_value-property_expression-requires-in-loop-p
list_value-property_expression-requires-in-loop-p t c =
    (omega (arith, read_left (c.bump-in-loop-p.ensures 0), w-left c.loop-p.invariant, read_left c.property_expression.ensures, read_left (c.bump.ensures 0), started-left c.start-m.ensures), tt)

pub list_value-loop-p-smaller : goal.list_value-loop-p-smaller
unfolding first null ones takes
list_value-loop-p-smaller t c =
    w-less {P = next-item} refl (sym c.at-in-loop-p.ensures ∙ c.loop-p-test.true)
    (seq-at suc (c.bump-in-loop-p.ensures _) (r-rule Expression c.property_expression-in-loop-p.ensures))

pub list_value-loop-p-preserved : goal.list_value-loop-p-preserved
unfolding first null ones takes
list_value-loop-p-preserved t c =
    again_at suc refl c.loop-p.invariant (sym c.at-in-loop-p.ensures ∙ c.loop-p-test.true)
    (seq-at suc (c.bump-in-loop-p.ensures _) (r-rule Expression c.property_expression-in-loop-p.ensures))

pub list_value-returns : goal.list_value-returns
unfolding first null ones
list_value-returns t c =
    node_at suc c.start-m.ensures
    (seq-at suc (c.bump.ensures _)
    (r-until (sym c.at.ensures ∙ c.if-at.false)
    (seq-at suc (r-rule Expression c.property_expression.ensures)
    (w-done c.loop-p.invariant (sym c.at-in-loop-p.ensures ∙ c.loop-p-test.false))) (c.expect.ensures _)))
    c.complete-2.ensures

pub multiplicative_expression-product-requires : goal.multiplicative_expression-product-requires
multiplicative_expression-product-requires t c = (omega (arith, read_left (o-reads c.property_expression_primary-lhs.ensures)), tt)

pub not_value-property_expression_primary-lhs-requires : goal.not_value-property_expression_primary-lhs-requires
not_value-property_expression_primary-lhs-requires t c = (omega (arith, read_left (c.bump.ensures 0), started-left c.start-m.ensures), tt)

pub not_value-expr-requires : goal.not_value-expr-requires
not_value-expr-requires t c = (omega (arith, read_left (o-reads c.property_expression_primary-lhs.ensures), read_left (c.bump.ensures 0), started-left c.start-m.ensures), tt)

pub not_value-returns : goal.not_value-returns
unfolding ones
not_value-returns t c =
    node_at suc c.start-m.ensures
    (seq-at suc (c.bump.ensures _) (r-negated (c.expr.ensures.on _ c.property_expression_primary-lhs.ensures)))
    c.complete.ensures

pub opened-returns-in-108 : goal.opened-returns-in-108
unfolding first null ones read step
opened-returns-in-108 t c = arm 108 (refl, refl, refl) (λ n ys. refl) (c.kind.ensures _) c.in-108.is c.not_value.ensures

pub opened-returns-in-10 : goal.opened-returns-in-10
unfolding first null ones read step
opened-returns-in-10 t c = arm 10 (refl, refl, refl) (λ n ys. refl) (c.kind.ensures _) c.in-10.is c.list_value.ensures

pub opened-returns-in-14 : goal.opened-returns-in-14
unfolding first null ones read step
opened-returns-in-14 t c = arm 14 (refl, refl, refl) (λ n ys. refl) (c.kind.ensures _) c.in-14.is c.record_value.ensures

pub opened-returns-in_default : goal.opened-returns-in_default
unfolding first null ones read step
opened-returns-in_default t c = sign-else (c.kind.ensures _) (assumption) c.signed_value.ensures

pub opener-returns-then-left-eq0 : goal.opener-returns-then-left-eq0
unfolding first null ones read step
opener-returns-then-left-eq0 t c = o_none (refusal 6) (λ n h. rw c.if-left-eq0.true refl) (r-deep c.if-left-eq0.true c.stop.ensures)

pub opener-returns : goal.opener-returns
opener-returns t c = o_opens {p = c.args.p.now} c.if-left-eq0.false c.opened-value.ensures

pub product-returns-in_err-lhs : goal.product-returns-in_err-lhs
unfolding first null ones
product-returns-in_err-lhs t c =
    record { on = λ p₀ x. rw c.from_residual.ensures (c-none single-operand (rw c.in_err-lhs.was at x)); left = refl; same = unmoved }

pub product-loop-p-init : goal.product-loop-p-init
product-loop-p-init t c = record { left = refl; same = unmoved; on = λ p₀ x. c-holds single-operand x }

pub product-property_expression_primary-requires : goal.product-property_expression_primary-requires
product-property_expression_primary-requires t c =
    (omega (arith, read_left (c.bump_any.ensures 0), preceded_left _ c.precede-m.ensures, c.loop-p.invariant.left), tt)

pub product-loop-p-smaller : goal.product-loop-p-smaller
unfolding first null ones takes
product-loop-p-smaller t c =
    c-less {Q = factor} _ refl (sym c.at_either.ensures ∙ c.loop-p-test.true) c.precede-m.ensures
    (seq-at same
    (bumped_after _ c.precede-m.ensures (sym c.at_either.ensures ∙ c.loop-p-test.true) (c.bump_any.ensures _))
    (o-reads c.property_expression_primary.ensures)) c.complete-lhs.ensures

pub product-loop-p-preserved : goal.product-loop-p-preserved
unfolding first null ones takes
product-loop-p-preserved t c =
    record {
      left = completed-left c.complete-lhs.ensures ∙ read_left (o-reads c.property_expression_primary.ensures) ∙ read_left (c.bump_any.ensures 0)
          ∙ preceded_left _ c.precede-m.ensures ∙ c.loop-p.invariant.left;
      same = same_then c.loop-p.invariant.same
          (same_then c.precede-m.ensures.same (same_then (c.bump_any.ensures 0).same (same_then c.property_expression_primary.ensures.same c.complete-lhs.ensures.same)));
      on = λ p₀ x. link_at _ refl (c.loop-p.invariant.on p₀ x) (sym c.at_either.ensures ∙ c.loop-p-test.true) c.precede-m.ensures
          (seq-at same
          (bumped_after _ c.precede-m.ensures (sym c.at_either.ensures ∙ c.loop-p-test.true) (c.bump_any.ensures _))
          (o-reads c.property_expression_primary.ensures)) c.complete-lhs.ensures;
    }

pub product-returns : goal.product-returns
unfolding first null ones
product-returns t c =
    record {
      on = λ p₀ x. c-done (c.loop-p.invariant.on p₀ (rw c.in_ok-lhs.was at x)) (sym c.at_either.ensures ∙ c.loop-p-test.false);
      left = c.loop-p.invariant.left;
      same = c.loop-p.invariant.same;
    }

pub sum-returns-in_err-lhs : goal.sum-returns-in_err-lhs
unfolding first null ones
sum-returns-in_err-lhs t c =
    record { on = λ p₀ x. rw c.from_residual.ensures (c-none single-product (rw c.in_err-lhs.was at x)); left = refl; same = unmoved }

pub sum-loop-p-init : goal.sum-loop-p-init
sum-loop-p-init t c = record { left = refl; same = unmoved; on = λ p₀ x. c-holds single-product x }

pub sum-multiplicative_expression-requires : goal.sum-multiplicative_expression-requires
sum-multiplicative_expression-requires t c =
    (omega (arith, read_left (c.bump_any.ensures 0), preceded_left _ c.precede-m.ensures, c.loop-p.invariant.left), tt)

pub sum-loop-p-smaller : goal.sum-loop-p-smaller
unfolding first null ones takes
sum-loop-p-smaller t c =
    c-less {Q = term} _ refl (sym c.at_either.ensures ∙ c.loop-p-test.true) c.precede-m.ensures
    (seq-at same
    (bumped_after _ c.precede-m.ensures (sym c.at_either.ensures ∙ c.loop-p-test.true) (c.bump_any.ensures _))
    (o-reads c.multiplicative_expression.ensures)) c.complete-lhs.ensures

pub sum-loop-p-preserved : goal.sum-loop-p-preserved
unfolding first null ones takes
sum-loop-p-preserved t c =
    record {
      left = completed-left c.complete-lhs.ensures ∙ read_left (o-reads c.multiplicative_expression.ensures) ∙ read_left (c.bump_any.ensures 0)
          ∙ preceded_left _ c.precede-m.ensures ∙ c.loop-p.invariant.left;
      same = same_then c.loop-p.invariant.same
          (same_then c.precede-m.ensures.same (same_then (c.bump_any.ensures 0).same (same_then c.multiplicative_expression.ensures.same c.complete-lhs.ensures.same)));
      on = λ p₀ x. link_at _ refl (c.loop-p.invariant.on p₀ x) (sym c.at_either.ensures ∙ c.loop-p-test.true) c.precede-m.ensures
          (seq-at same
          (bumped_after _ c.precede-m.ensures (sym c.at_either.ensures ∙ c.loop-p-test.true) (c.bump_any.ensures _))
          (o-reads c.multiplicative_expression.ensures)) c.complete-lhs.ensures;
    }

pub sum-returns : goal.sum-returns
unfolding first null ones
sum-returns t c =
    record {
      on = λ p₀ x. c-done (c.loop-p.invariant.on p₀ (rw c.in_ok-lhs.was at x)) (sym c.at_either.ensures ∙ c.loop-p-test.false);
      left = c.loop-p.invariant.left;
      same = c.loop-p.invariant.same;
    }

pub property_expression-expr-requires : goal.property_expression-expr-requires
property_expression-expr-requires t c = (omega (arith, read_left (o-reads c.property_expression_primary-lhs.ensures)), tt)

pub property_expression-returns-else-at_operator : goal.property_expression-returns-else-at_operator
property_expression-returns-else-at_operator t c = no_operator c.property_expression_primary-lhs.ensures (sym c.at_operator.ensures ∙ c.if-at_operator.false)

pub property_expression_primary-returns-then-at_opener : goal.property_expression_primary-returns-then-at_opener
unfolding first keywords names null ones read step take_any take_one take_wrong
property_expression_primary-returns-then-at_opener t c = opener_operand (sym c.at_opener.ensures ∙ c.if-at_opener.true) c.opener.ensures

pub property_expression_primary-no_operand-requires : goal.property_expression_primary-no_operand-requires
unfolding first keywords names null ones read step take_any take_one take_wrong
property_expression_primary-no_operand-requires t c =
    let p = c.args.p.now in
    let x = c.kind-kind.result in
    none-begins (source p.tokens) (counters p) (c.kind-kind.ensures _) (sym c.at_opener.ensures ∙ c.if-at_opener.false)
    (or_l (eqb x 106) (eqb x 107) c.if-kind.false) (or_r (eqb x 106) (eqb x 107) c.if-kind.false) (assumption)

pub property_expression_primary-returns-in-30 : goal.property_expression_primary-returns-in-30
unfolding first keywords names null ones read step take_any take_one take_wrong
property_expression_primary-returns-in-30 t c = arm 30 (refl, refl, refl) (λ n ys. refl) (c.kind-kind.ensures _) c.in-30.is (c.integer_value.ensures _)

pub property_expression_primary-returns-in-31 : goal.property_expression_primary-returns-in-31
unfolding first keywords names null ones read step take_any take_one take_wrong
property_expression_primary-returns-in-31 t c = arm 31 (refl, refl, refl) (λ n ys. refl) (c.kind-kind.ensures _) c.in-31.is (c.real_value.ensures _)

pub property_expression_primary-returns-in-32 : goal.property_expression_primary-returns-in-32
unfolding first keywords names null ones read step take_any take_one take_wrong
property_expression_primary-returns-in-32 t c = arm 32 (refl, refl, refl) (λ n ys. refl) (c.kind-kind.ensures _) c.in-32.is (c.string_value.ensures _)

pub property_expression_primary-returns-in-91 : goal.property_expression_primary-returns-in-91
unfolding first keywords names null ones read step take_any take_one take_wrong
property_expression_primary-returns-in-91 t c = arm 91 (refl, refl, refl) (λ n ys. refl) (c.kind-kind.ensures _) c.in-91.is c.classifier_value.ensures

pub property_expression_primary-returns-in-92 : goal.property_expression_primary-returns-in-92
unfolding first keywords names null ones read step take_any take_one take_wrong
property_expression_primary-returns-in-92 t c = arm 92 (refl, refl, refl) (λ n ys. refl) (c.kind-kind.ensures _) c.in-92.is (c.reference_value.ensures _)

pub property_expression_primary-returns-in-94 : goal.property_expression_primary-returns-in-94
unfolding first keywords names null ones read step take_any take_one take_wrong
property_expression_primary-returns-in-94 t c = arm 94 (refl, refl, refl) (λ n ys. refl) (c.kind-kind.ensures _) c.in-94.is (c.computed_value.ensures _)

pub property_expression_primary-returns-in-33 : goal.property_expression_primary-returns-in-33
unfolding first keywords names null ones read step take_any take_one take_wrong
property_expression_primary-returns-in-33 t c = arm 33 (refl, refl, refl) (λ n ys. refl) (c.kind-kind.ensures _) c.in-33.is (c.named_value.ensures _)

pub property_expression_primary-returns-then-kind : goal.property_expression_primary-returns-then-kind
unfolding first keywords names null ones read step take_any take_one take_wrong
property_expression_primary-returns-then-kind t c =
    ⊎_elim
    (λ e. arm 106 (refl, refl, refl) (λ n ys. refl) (c.kind-kind.ensures _) (eqb-true _ 106 e) (c.boolean_value.ensures _))
    (λ e. arm 107 (refl, refl, refl) (λ n ys. refl) (c.kind-kind.ensures _) (eqb-true _ 107 e) (c.boolean_value.ensures _))
    (or_cases (eqb c.kind-kind.result 106) (eqb c.kind-kind.result 107) c.if-kind.true)

pub property_expression_primary-returns-in_default : goal.property_expression_primary-returns-in_default
unfolding first keywords names null ones read step take_any take_one take_wrong
property_expression_primary-returns-in_default t c = c.no_operand.ensures _

pub range-additive_expression-requires : goal.range-additive_expression-requires
range-additive_expression-requires t c = (omega (arith, read_left (c.bump.ensures 0), preceded_left _ c.precede-m.ensures), tt)

pub range-delta-requires : goal.range-delta-requires
range-delta-requires t c = (omega (arith, read_left (o-reads c.additive_expression.ensures), read_left (c.bump.ensures 0), preceded_left _ c.precede-m.ensures), tt)

pub range-returns-in-Some : goal.range-returns-in-Some
unfolding first null ones
range-returns-in-Some t c =
    record {
      on = λ p₀ x s. turn_at single-sum (rw c.in-Some.is at x) s c.precede-m.ensures
          (seq-at same (c.bump.ensures _) (seq-at same (o-reads c.additive_expression.ensures) (c.delta.ensures free)))
          c.complete.ensures;
      same = same_then c.precede-m.ensures.same
          (same_then (c.bump.ensures 0).same (same_then c.additive_expression.ensures.same (same_then (c.delta.ensures free).same c.complete.ensures.same)));
    }

pub range-returns-in_default : goal.range-returns-in_default
unfolding first null ones
range-returns-in_default t c = record { on = λ p₀ x s. x-none single-sum (rw c.in_default.is at x); same = unmoved }

pub record_value-loop-p-init : goal.record_value-loop-p-init
record_value-loop-p-init t c = w-holds

pub record_value-property_expression-requires : goal.record_value-property_expression-requires
record_value-property_expression-requires t c =
    (omega (arith, read_left (c.expect.ensures 0), read_left (c.bump-in-loop-p.ensures 0), started-left c.start-field.ensures, w-left c.loop-p.invariant, read_left (c.bump.ensures 0), started-left c.start-m.ensures), tt)

pub record_value-loop-p-smaller : goal.record_value-loop-p-smaller
unfolding first null ones takes
record_value-loop-p-smaller t c =
    w-less {P = record_field} refl (sym c.at.ensures ∙ c.loop-p-test.true)
    (inside-at suc c.start-field.ensures
    (seq-at suc (c.bump-in-loop-p.ensures _)
    (seq-at suc (c.expect.ensures _)
    (seq-at suc (r-rule Expression c.property_expression.ensures) (c.expect-in-loop-p.ensures _))))
    c.complete.ensures)

pub record_value-loop-p-preserved : goal.record_value-loop-p-preserved
unfolding first null ones takes
record_value-loop-p-preserved t c =
    again_at suc refl c.loop-p.invariant (sym c.at.ensures ∙ c.loop-p-test.true)
    (inside-at suc c.start-field.ensures
    (seq-at suc (c.bump-in-loop-p.ensures _)
    (seq-at suc (c.expect.ensures _)
    (seq-at suc (r-rule Expression c.property_expression.ensures) (c.expect-in-loop-p.ensures _))))
    c.complete.ensures)

pub record_value-returns : goal.record_value-returns
unfolding first null ones
record_value-returns t c =
    node_at suc c.start-m.ensures
    (seq-at suc (c.bump.ensures _)
    (seq-at suc (w-done c.loop-p.invariant (sym c.at.ensures ∙ c.loop-p-test.false)) (c.expect-2.ensures _)))
    c.complete-2.ensures

pub signed_value-property_expression_primary-requires : goal.signed_value-property_expression_primary-requires
signed_value-property_expression_primary-requires t c = (omega (arith, read_left (c.bump_any.ensures 0), started-left c.start-m.ensures), tt)

pub signed_value-returns : goal.signed_value-returns
unfolding ones
signed_value-returns t c =
    node_at suc c.start-m.ensures
    (seq-at suc (c.bump_any.ensures _) (r-rule Operand (o-reads c.property_expression_primary.ensures)))
    c.complete.ensures
