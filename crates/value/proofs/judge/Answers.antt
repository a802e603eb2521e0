-- The verdict, way by way (Judging): the word that is found tells whether the association is there, and the word behind that tells its first
-- token. Assumes nothing.
use Prim.Native.Nat.{ℕ, ◌+◌, ◌≤◌, ◌<◌}
use native.Mathlib.Omega.{arith}
use mathlib.Core.Path.{◌≡◌, ap, subst, ◌∙◌}
use mathlib.Core.Bool.{Bool, true}
use mathlib.Core.List.{List}
use lib.ListN.{length, get_or}
use mir.Syntax.{w64}
use mir.Val.{to_z, of_z}
use mir.ValLaws.{to_z-of_z}
use borrow.Author.Rules.{rules}
use Rattle.std.specs.Prelude.{Option, Some, None, Result, Ok}
use Rattle.std.specs.declared.ops.Range.{Range}
use Rattle.aadl.specs.declared.Limits.{Limits}
use Rattle.aadl.specs.Symbols.{raw_number}
use Rattle.aadl.specs.ValueCall.{nth_association, text_associations}
use Rattle.int64.specs.declared.Whole.{Whole}
use Rattle.bands.specs.Bands.{nth_within}
use Rattle.parser.specs.declared.Tokens.{Tokens}
use Rattle.section.specs.Reaching.{Reached}
use Rattle.section.proofs.Reaching.{reached-own, reached-place, reached-stands}
use Rattle.evaluator.specs.Terms.{FirstValue}
use Rattle.value.specs.Words.{starting}
use Rattle.value.specs.Verdicts.{WasRead}
use Rattle.value.proofs.Judging.{value-fits, few-events, number-counted, judged-unclean, judged-absent, second-there, second_is, judged-no_constant, judged-beyond, judged-valued}
use Rattle.value.proofs.judge.Goals as goal

-- what a search gives in the band that is looked for
module _ (band : Range ℕ) (e : band ≡ starting) (number : ℕ) (ws : List ℕ) where
  absent : (nth_within band number ws < length ws → ⊥) → length ws ≤ nth_within starting number ws
  absent n = omega (arith, n, ap (λ (b : Range ℕ). nth_within b number ws) e)

  found : (at : ℕ) → (nth_within band number ws < length ws) × (at ≡ nth_within band number ws) → (nth_within starting number ws < length ws) × (at ≡ nth_within starting number ws)
  found at f = subst (λ (b : Range ℕ). (nth_within b number ws < length ws) × (at ≡ nth_within b number ws)) e f

-- The association is there, at a place, and the word behind its Start names its first token.
module _ {limits : Limits} {text words events : List ℕ} {clean : Bool} (x : WasRead limits text words events clean) (number at : ℕ) (cleanly : clean ≡ true)
    (f : (nth_within starting number events < length events) × (at ≡ nth_within starting number events)) where
  abbrev first : ℕ
  first = (nth_association number (text_associations limits text)).first

  named : get_or events (at + 1) 0 ≡ raw_number text first
  named = (λ i. get_or events (f.1 i + 1) 0) ∙ second_is x number cleanly f.0

  named_counted : get_or events (at + 1) 0 ≤ length words
  named_counted = omega (arith, named, number-counted x first)

-- what is read at tokens of a text
read : (text : List ℕ) (k : ℕ) (t : Tokens) (r : Option (Result Whole ℕ)) → Reached text k t → ((j : ℕ) → Reached t.text.now j t → FirstValue t.text.now j r) → FirstValue text k r
read text k t r x e = subst (λ (s : List ℕ). FirstValue s k r) x.text_is (e k (reached-own text k t x))

pub returns-then-not-clean : goal.returns-then-not-clean
returns-then-not-clean c = λ limits x. judged-unclean x c.args.number c.if-not-clean.true

pub find-requires : goal.find-requires
find-requires c =
    let x = c.requires.1 in
    omega (arith, few-events x, x.few)

pub returns-in_default : goal.returns-in_default
returns-in_default c = λ limits x.
    judged-absent x c.args.number c.if-not-clean.false (absent c.starting.result c.starting.ensures c.args.number c.args.events.now c.in_default.ensures)

pub bounds-events-at : goal.bounds-events-at
bounds-events-at c =
    let a = c.args in
    let f = found c.starting.result c.starting.ensures a.number a.events.now c.in-Some.at c.in-Some.ensures in
    omega (arith, f.1, second-there c.requires.1 a.number c.if-not-clean.false f.0)

pub seek-tokens-requires : goal.seek-tokens-requires
seek-tokens-requires c =
    let a = c.args in
    let x = c.requires.1 in
    let f = found c.starting.result c.starting.ensures a.number a.events.now c.in-Some.at c.in-Some.ensures in
    (x.short, x.words, named_counted x a.number c.in-Some.at c.if-not-clean.false f)

pub first_value-requires : goal.first_value-requires
first_value-requires c =
    let a = c.args in
    let x = c.requires.1 in
    let f = found c.starting.result c.starting.ensures a.number a.events.now c.in-Some.at c.in-Some.ensures in
    let sought = c.seek-tokens.ensures _ (named x a.number c.in-Some.at c.if-not-clean.false f) in
    reached-stands a.text.now _ c.seek-tokens.result sought

pub returns-in_default-first_value : goal.returns-in_default-first_value
returns-in_default-first_value c = λ limits x.
    let a = c.args in
    let t = c.seek-tokens.result in
    let f = found c.starting.result c.starting.ensures a.number a.events.now c.in-Some.at c.in-Some.ensures in
    let sought = c.seek-tokens.ensures _ (named x a.number c.in-Some.at c.if-not-clean.false f) in
    judged-no_constant x a.number c.if-not-clean.false f.0 (read a.text.now _ t None sought c.in_default-first_value.ensures) t.byte (reached-place a.text.now _ t sought)

pub to_i64-requires : goal.to_i64-requires
to_i64-requires c =
    let x = c.requires.1 in
    let a = c.args in
    let t = c.seek-tokens.result in
    let f = found c.starting.result c.starting.ensures a.number a.events.now c.in-Some.at c.in-Some.ensures in
    let sought = c.seek-tokens.ensures _ (named x a.number c.in-Some.at c.if-not-clean.false f) in
    let found : FirstValue a.text.now _ (Some (Ok c.in-Ok.whole)) =
    subst (λ (v : Result Whole ℕ). FirstValue a.text.now (first x a.number c.in-Some.at c.if-not-clean.false f) (Some v)) c.in-Ok.is
    (read a.text.now _ t (Some c.in-Some-first_value.value) sought c.in-Some-first_value.ensures) in
    value-fits a.text.now _ c.in-Ok.whole found

pub returns-in-Ok : goal.returns-in-Ok
returns-in-Ok c = λ limits x.
    let a = c.args in
    let t = c.seek-tokens.result in
    let f = found c.starting.result c.starting.ensures a.number a.events.now c.in-Some.at c.in-Some.ensures in
    let sought = c.seek-tokens.ensures _ (named x a.number c.in-Some.at c.if-not-clean.false f) in
    let v = c.to_i64.result in
    judged-valued x a.number c.if-not-clean.false f.0 c.in-Ok.whole (to_z w64 (of_z w64 v))
    (subst (λ (r : Result Whole ℕ). FirstValue a.text.now (first x a.number c.in-Some.at c.if-not-clean.false f) (Some r)) c.in-Ok.is
    (read a.text.now _ t (Some c.in-Some-first_value.value) sought c.in-Some-first_value.ensures))
    (to_z-of_z w64 v (search rules) ∙ c.to_i64.ensures)

pub returns-in-Err : goal.returns-in-Err
returns-in-Err c = λ limits x.
    let a = c.args in
    let t = c.seek-tokens.result in
    let f = found c.starting.result c.starting.ensures a.number a.events.now c.in-Some.at c.in-Some.ensures in
    let sought = c.seek-tokens.ensures _ (named x a.number c.in-Some.at c.if-not-clean.false f) in
    judged-beyond x a.number c.if-not-clean.false f.0 c.in-Err.place
    (subst (λ (r : Result Whole ℕ). FirstValue a.text.now (first x a.number c.in-Some.at c.if-not-clean.false f) (Some r)) c.in-Err.is
    (read a.text.now _ t (Some c.in-Some-first_value.value) sought c.in-Some-first_value.ensures))
