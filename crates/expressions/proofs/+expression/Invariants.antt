-- Calls fall in the openers left, and with as many of them in where a function stands above those that it calls. Assumes nothing.
use Prim.Native.Nat.{suc, ◌+◌, ◌*◌}
use Rattle.aadl.specs.Section.{operand, record_field}
use Rattle.aadl.specs.Section as G
use Rattle.parser.proofs.Parsers.{Turning, μ}
use Rattle.expressions.proofs.Operands.{factor, term, next-item, Chained}
use Rattle.expressions.proofs.+expression.Given as goal

abbrev pub decreases-additive_expression : goal.decreases-additive_expression
decreases-additive_expression l = l.p.now.left * 14 + 7

abbrev pub decreases-delta : goal.decreases-delta
decreases-delta l = l.p.now.left * 14 + 8

abbrev pub decreases-expr : goal.decreases-expr
decreases-expr l = l.p.now.left * 14 + 10

abbrev pub decreases-list_value : goal.decreases-list_value
decreases-list_value l = l.p.now.left * 14 + 12

abbrev pub decreases-multiplicative_expression : goal.decreases-multiplicative_expression
decreases-multiplicative_expression l = l.p.now.left * 14 + 4

abbrev pub decreases-not_value : goal.decreases-not_value
decreases-not_value l = l.p.now.left * 14 + 12

abbrev pub decreases-opened : goal.decreases-opened
decreases-opened l = l.p.now.left * 14 + 13

abbrev pub decreases-opener : goal.decreases-opener
decreases-opener l = l.p.now.left * 14 + 0

abbrev pub decreases-product : goal.decreases-product
decreases-product l = l.p.now.left * 14 + 2

abbrev pub decreases-property_expression : goal.decreases-property_expression
decreases-property_expression l = l.p.now.left * 14 + 11

abbrev pub decreases-property_expression_primary : goal.decreases-property_expression_primary
decreases-property_expression_primary l = l.p.now.left * 14 + 1

abbrev pub decreases-range : goal.decreases-range
decreases-range l = l.p.now.left * 14 + 9

abbrev pub decreases-record_value : goal.decreases-record_value
decreases-record_value l = l.p.now.left * 14 + 12

abbrev pub decreases-signed_value : goal.decreases-signed_value
decreases-signed_value l = l.p.now.left * 14 + 12

abbrev pub decreases-sum : goal.decreases-sum
decreases-sum l = l.p.now.left * 14 + 5

abbrev pub invariant-list_value-loop-p : goal.invariant-list_value-loop-p
invariant-list_value-loop-p l = Turning (suc l.initial.p.left) next-item l.initial.p l.p

abbrev pub decreases-list_value-loop-p : goal.decreases-list_value-loop-p
decreases-list_value-loop-p l = μ l.p

abbrev pub invariant-product-loop-p : goal.invariant-product-loop-p
invariant-product-loop-p l = Chained operand factor l.initial.lhs l.initial.p l.lhs l.p

abbrev pub decreases-product-loop-p : goal.decreases-product-loop-p
decreases-product-loop-p l = μ l.p

abbrev pub invariant-record_value-loop-p : goal.invariant-record_value-loop-p
invariant-record_value-loop-p l = Turning (suc l.initial.p.left) record_field l.initial.p l.p

abbrev pub decreases-record_value-loop-p : goal.decreases-record_value-loop-p
decreases-record_value-loop-p l = μ l.p

abbrev pub invariant-sum-loop-p : goal.invariant-sum-loop-p
invariant-sum-loop-p l = Chained G.product term l.initial.lhs l.initial.p l.lhs l.p

abbrev pub decreases-sum-loop-p : goal.decreases-sum-loop-p
decreases-sum-loop-p l = μ l.p
