-- One operand at a turn (Summing). The measure is what remains. Assumes nothing.
use Prim.Native.Nat.{ℕ}
use native.Mathlib.Omega.{arith}
use mathlib.Core.Path.{◌≡◌, sym, ap, subst, ◌∙◌}
use mathlib.Core.List.{List, [], ◌∷◌}
use Rattle.std.specs.Prelude.{Option, Some, Result}
use Rattle.predictive.specs.Grammar.{has}
use Rattle.aadl.specs.Kinds.{PLUS, MINUS, STAR, #◌}
use Rattle.int64.specs.declared.Whole.{Whole}
use Rattle.parser.specs.declared.Tokens.{Tokens}
use Rattle.section.specs.Reaching.{Reached}
use Rattle.section.proofs.Reaching.{reached-next, reached-own}
use Rattle.evaluator.specs.declared.Operator.{Operator}
use Rattle.evaluator.specs.declared.Operator.TheVariants.{Times, Plus, Minus}
use Rattle.evaluator.specs.Terms.{kind_of, Operand, OperandRead}
use Rattle.evaluator.proofs.Ahead.{reached-ahead}
use Rattle.evaluator.proofs.Passing.{fewer}
use Rattle.evaluator.proofs.Summing.{ready-first, ready-again, summed}
use Rattle.evaluator.proofs.sum.Goals as goal

-- an operand that is read at tokens of a text
read : (text : List ℕ) (j : ℕ) (t u : Tokens) (r : Option (Result Whole ℕ)) → Reached text j t → ((k : ℕ) → Reached t.text.now k t → OperandRead t.text.now k r u) →
    OperandRead text j r u
read text j t u r x e = subst (λ (s : List ℕ). OperandRead s j r u) x.text_is (e j (reached-own text j t x))

not_end : (op : Operator) → kind_of op ≡ 257 → ⊥
not_end Times e = omega (arith, e)
not_end Plus e = omega (arith, e)
not_end Minus e = omega (arith, e)

pub loop-next-init : goal.loop-next-init
loop-next-init c = λ k x. ready-first c.args.tokens.now.text.now k c.args.tokens.now x

pub returns-in_default : goal.returns-in_default
returns-in_default c = λ k y.
    let text = c.args.tokens.now.text.now in
    let l = c.loop-next in
    let v = c.operand.new.tokens in
    let r = c.in_ok-next.next in
    let x = l.invariant k y in
    let o : Operand text x.to r v = read text x.to l.tokens v (Some r) x.stands c.in_ok-next.ensures in
    let none = ap (has (# PLUS ∷ # MINUS ∷ # STAR ∷ [])) (sym (reached-ahead text o.to v o.stands _ c.current.ensures)) ∙ c.in_default.ensures in
    summed text k l.tokens l.terms x r v o c.ends.result none c.ends.ensures

pub loop-next-smaller : goal.loop-next-smaller
loop-next-smaller c =
    let text = c.args.tokens.now.text.now in
    let l = c.loop-next in
    let v = c.operand.new.tokens in
    let r = c.in_ok-next.next in
    let op = c.in-Some.op in
    let x = l.invariant c.requires.0 c.requires.1 in
    let o : Operand text x.to r v = read text x.to l.tokens v (Some r) x.stands c.in_ok-next.ensures in
    let shown = sym (reached-ahead text o.to v o.stands _ c.current.ensures) ∙ c.in-Some.ensures in
    fewer text x.to o.to (kind_of op) l.tokens c.pass.new.self x.stands (omega (arith, o.from)) shown (not_end op) (reached-next text o.to v o.stands c.pass.new.self c.pass.ensures)

pub loop-next-preserved : goal.loop-next-preserved
loop-next-preserved c = λ k y.
    let text = c.args.tokens.now.text.now in
    let l = c.loop-next in
    let v = c.operand.new.tokens in
    let r = c.in_ok-next.next in
    let op = c.in-Some.op in
    let x = l.invariant k y in
    let o : Operand text x.to r v = read text x.to l.tokens v (Some r) x.stands c.in_ok-next.ensures in
    let shown = sym (reached-ahead text o.to v o.stands _ c.current.ensures) ∙ c.in-Some.ensures in
    ready-again text k l.tokens l.terms x r v o op c.pass.new.self c.then-terms.result shown c.then-terms.ensures
    (reached-next text o.to v o.stands c.pass.new.self c.pass.ensures)
