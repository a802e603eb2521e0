-- Past the arrow, past `constant` if it stands there, and the value (Passing). Assumes nothing.
use Prim.Native.Nat.{ℕ}
use mathlib.Core.Path.{sym, subst, ◌∙◌}
use mathlib.Core.List.{List}
use mathlib.Core.Option.{Option}
use Rattle.std.specs.Prelude.{Option as Maybe, Result}
use Rattle.aadl.specs.Values.{Outcome, number_at}
use Rattle.aadl.specs.Symbols.{symbols}
use Rattle.int64.specs.declared.Whole.{Whole}
use Rattle.parser.specs.declared.Tokens.{Tokens}
use lib.ListN.{drop}
use Rattle.section.specs.Reaching.{Reached}
use Rattle.section.proofs.Reaching.{reached-next, reached-own, reached-stands}
use Rattle.evaluator.specs.Pass.{evaluated}
use Rattle.evaluator.specs.Terms.{FirstValue, ValueRead}
use Rattle.evaluator.proofs.Ahead.{reached-ahead}
use Rattle.evaluator.proofs.Passing.{AtValue, constant-here, no_constant-here}
use Rattle.evaluator.proofs.first_value.Goals as goal
use Rattle.evaluator.proofs.first_value.Goals.{then-current-eq-CONSTANT_KW, else-current-eq-CONSTANT_KW}

-- a value that is read at tokens of a text
read : (text : List ℕ) (k : ℕ) (t : Tokens) (r : Maybe (Result Whole ℕ)) (x : AtValue text k t) →
    ((j : ℕ) → Reached t.text.now j t → ValueRead t.text.now (evaluated (number_at t.text.now) j (drop j (symbols t.text.now))) r) → FirstValue text k r
read text k t r x e =
    subst (λ (o : Option Outcome). ValueRead text o r) (sym x.gives)
    (subst (λ (s : List ℕ). ValueRead s (evaluated (number_at s) x.to (drop x.to (symbols s))) r) x.stands.text_is (e x.to (reached-own text x.to t x.stands)))

pub value-requires : goal.value-requires
value-requires c =
    let text = c.args.tokens.text.now in
    let q = c.past_arrow.new.tokens in
    let x = c.past_arrow.ensures c.requires.0 c.requires.1 in
    let shown = reached-ahead text x.to q x.stands _ c.current.ensures in
    let at : AtValue text c.requires.0 c.if-current-eq-CONSTANT_KW.tokens =
    elim c.if-current-eq-CONSTANT_KW.branch [
      | then-current-eq-CONSTANT_KW u ↦
          subst (AtValue text c.requires.0) (sym u.tokens-is)
          (constant-here text c.requires.0 q x u.pass.new.self (sym shown ∙ u.if-current-eq-CONSTANT_KW.true) (reached-next text x.to q x.stands u.pass.new.self u.pass.ensures))
      | else-current-eq-CONSTANT_KW u ↦ subst (AtValue text c.requires.0) (sym u.tokens-is) (no_constant-here text c.requires.0 q x (λ e. u.if-current-eq-CONSTANT_KW.false (shown ∙ e)))
    ] in
    reached-stands text at.to c.if-current-eq-CONSTANT_KW.tokens at.stands

pub returns : goal.returns
returns c = λ k y.
    let text = c.args.tokens.text.now in
    let q = c.past_arrow.new.tokens in
    let x = c.past_arrow.ensures k y in
    let shown = reached-ahead text x.to q x.stands _ c.current.ensures in
    let at : AtValue text k c.if-current-eq-CONSTANT_KW.tokens =
    elim c.if-current-eq-CONSTANT_KW.branch [
      | then-current-eq-CONSTANT_KW u ↦
          subst (AtValue text k) (sym u.tokens-is)
          (constant-here text k q x u.pass.new.self (sym shown ∙ u.if-current-eq-CONSTANT_KW.true) (reached-next text x.to q x.stands u.pass.new.self u.pass.ensures))
      | else-current-eq-CONSTANT_KW u ↦ subst (AtValue text k) (sym u.tokens-is) (no_constant-here text k q x (λ e. u.if-current-eq-CONSTANT_KW.false (shown ∙ e)))
    ] in
    read text k c.if-current-eq-CONSTANT_KW.tokens c.value.result at c.value.ensures
