-- Behind the signs stands no literal, one that breaks a rule, one beyond the range, or one that is kept (Passing, Literals). Assumes nothing.
use Prim.Native.Nat.{ℕ}
use mathlib.Core.Path.{◌≡◌, sym, subst, ◌∙◌}
use mathlib.Core.Bool.{Bool, true}
use mathlib.Core.List.{List}
use lib.ListN.{drop}
use Rattle.std.specs.Prelude.{Option, Some, None, Result}
use Rattle.int64.specs.declared.Whole.{Whole}
use Rattle.aadl.specs.Bytes.{peek, is_digit}
use Rattle.aadl.specs.Values.{literal_number, number_at}
use Rattle.literals.specs.Capped.{capped}
use Rattle.parser.specs.declared.Tokens.{Tokens}
use Rattle.section.proofs.Reaching.{reached-next, reached-place}
use Rattle.evaluator.specs.Terms.{SignsPassed, OperandRead}
use Rattle.evaluator.proofs.Ahead.{reached-ahead, literal-begins}
use Rattle.evaluator.proofs.Literals.{none-told, some-told, literal-beyond, literal-kept}
use Rattle.evaluator.proofs.Passing.{no_literal, broken-literal, whole-literal}
use Rattle.evaluator.proofs.operand.Goals as goal

-- what is told of the literal where the tokens stand, by its token's number
told : (text : List ℕ) (k : ℕ) (m : Bool) (t : Tokens) (x : SignsPassed text k m t) (r : Option ℕ) → r ≡ capped (literal_number (drop t.byte t.text.now)) →
    r ≡ capped (number_at text x.to)
unfolding number_at
told text k m t x r e = e ∙ (λ i. capped (literal_number (drop (reached-place text x.to t x.stands i) (x.stands.text_is i))))

pub returns-then-current-ne-INTEGER_LIT : goal.returns-then-current-ne-INTEGER_LIT
returns-then-current-ne-INTEGER_LIT c = λ k y.
    let text = c.args.tokens.now.text.now in
    let t = c.signs-negative.new.tokens in
    let m = c.signs-negative.result in
    let x = c.signs-negative.ensures k y in
    no_literal text k m t x (λ e. c.if-current-ne-INTEGER_LIT.true (reached-ahead text x.to t x.stands _ c.current.ensures ∙ e))

pub literal_number-requires : goal.literal_number-requires
literal_number-requires c =
    let text = c.args.tokens.now.text.now in
    let t = c.signs-negative.new.tokens in
    let x = c.signs-negative.ensures c.requires.0 c.requires.1 in
    let shown = sym (reached-ahead text x.to t x.stands _ c.current.ensures) ∙ c.if-current-ne-INTEGER_LIT.false in
    subst (λ (bs : List ℕ). is_digit (peek bs t.byte) ≡ true) (sym x.stands.text_is) (literal-begins text x.to t x.stands shown)

pub returns-in_err-size : goal.returns-in_err-size
returns-in_err-size c = λ k y.
    let text = c.args.tokens.now.text.now in
    let t = c.signs-negative.new.tokens in
    let m = c.signs-negative.result in
    let x = c.signs-negative.ensures k y in
    let shown = sym (reached-ahead text x.to t x.stands _ c.current.ensures) ∙ c.if-current-ne-INTEGER_LIT.false in
    let none = none-told (number_at text x.to) (told text k m t x None c.in_err-size.ensures) in
    subst (λ (r : Option (Result Whole ℕ)). OperandRead text k r t) (sym c.from_residual.ensures) (broken-literal text k m t x shown none)

pub returns-then-size-ge-MOST : goal.returns-then-size-ge-MOST
returns-then-size-ge-MOST c = λ k y.
    let text = c.args.tokens.now.text.now in
    let t = c.signs-negative.new.tokens in
    let m = c.signs-negative.result in
    let n = c.in_ok-size.size in
    let x = c.signs-negative.ensures k y in
    let shown = sym (reached-ahead text x.to t x.stands _ c.current.ensures) ∙ c.if-current-ne-INTEGER_LIT.false in
    let v = some-told (number_at text x.to) n (told text k m t x (Some n) c.in_ok-size.ensures) in
    whole-literal text k m t x shown v.0 _ c.pass.new.self v.1 (reached-next text x.to t x.stands c.pass.new.self c.pass.ensures)
    (literal-beyond text x.to m v.0 n v.2 t.byte (reached-place text x.to t x.stands) c.if-size-ge-MOST.true)

pub returns : goal.returns
returns c = λ k y.
    let text = c.args.tokens.now.text.now in
    let t = c.signs-negative.new.tokens in
    let m = c.signs-negative.result in
    let n = c.in_ok-size.size in
    let x = c.signs-negative.ensures k y in
    let shown = sym (reached-ahead text x.to t x.stands _ c.current.ensures) ∙ c.if-current-ne-INTEGER_LIT.false in
    let v = some-told (number_at text x.to) n (told text k m t x (Some n) c.in_ok-size.ensures) in
    whole-literal text k m t x shown v.0 _ c.pass.new.self v.1 (reached-next text x.to t x.stands c.pass.new.self c.pass.ensures)
    (literal-kept text x.to m v.0 n v.2 c.if-size-ge-MOST.false)
