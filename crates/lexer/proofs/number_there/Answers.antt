-- A byte that is a digit stands in the text, so that the sum before the token was not cut; the number is scanned there, and told if the token's word has its
-- kind and length (aadl's NumberLaws). What is told holds whichever it is. Assumes nothing.
use Prim.Native.Nat.{ℕ, ◌+◌, ◌-◌, ◌≤◌, ◌<◌, min}
use native.Mathlib.Omega.{arith}
use mathlib.Core.Path.{◌≡◌, refl, sym, ap, ◌∙◌}
use mathlib.Core.Bool.{Bool, true, false, ◌&&◌, cond}
use mathlib.Core.List.{List}
use lib.ListN.{length, take, drop, get_or, drop_of_length-le, get_or-eq_default}
use lib.Seq.{get_or-drop}
use lib.Dec.{ltb, eqb}
use borrow.Author.Tests.{ltb-true, ltb-false}
use Rattle.std.specs.Prelude.{Option, None, unwrap_or}
use Rattle.aadl.specs.declared.Number.{Number}
use Rattle.aadl.specs.Bytes.{peek, is_digit, run_end}
use Rattle.aadl.specs.Tokens.{number_from, number_of, total, kind_in, length_in}
use Rattle.aadl.specs.NumberParts.{no_number, number_parts}
use Rattle.aadl.proofs.RunLaws.{run_more, run-end_from, run-rest}
use Rattle.aadl.proofs.TokenBounds.{inside}
use Rattle.aadl.proofs.NumberLaws.{no_digit_there, digit-there, no_word_there}
use Rattle.classes.specs.Classes.{member}
use borrow.Author.Rules.{rules}
use Rattle.lexer.proofs.number_there.Goals as goal

-- where a sum that is cut at the text's end comes to, stands what the bytes from the sum on begin with
first-there : (text : List ℕ) (k at : ℕ) → at ≡ min k (length text) → peek (drop k text) 0 ≡ peek text at
first-there text k at e = by_place (ltb k (length text)) refl
  where
    by_place : (t : Bool) → ltb k (length text) ≡ t → peek (drop k text) 0 ≡ peek text at
    by_place true q = let l = ltb-true k (length text) q in get_or-drop k text 0 0 ∙ ap (peek text) (omega (arith, e, l))
    by_place false q =
        let l = ltb-false k (length text) q in
        ap (λ (bs : List ℕ). peek bs 0) (drop_of_length-le text {i = k} l) ∙ sym (get_or-eq_default text 0 (omega (arith, e, l)))

-- A digit stands where the sum before the token comes to: so it was not cut, the digits end behind it, and what is told goes by the tests of the
-- kind and the length.
module _ (text ws : List ℕ) (i at : ℕ) (start : at ≡ min (total (take i ws)) (length text)) (digit : is_digit (peek text at) ≡ true) where
  here : at < length text
  here = inside is_digit refl text at digit

  end-from : (d : ℕ) → d ≡ run_end is_digit text at → at < d
  end-from d e = omega (arith, e, run_more is_digit text at here digit, run-end_from is_digit text (at + 1))

  by_tests : (d : ℕ) (n : Number) (kind len : ℕ) → d ≡ run_end is_digit text at → n ≡ number_from (drop at text) (d - at) → kind ≡ kind_in (get_or ws i 0) →
      len ≡ length_in (get_or ws i 0) → number_parts text ws i ≡ cond (eqb n.kind kind && eqb n.len len) n no_number
  unfolding number_of
  by_tests d n kind len e s k l =
      let exact : total (take i ws) ≡ at = omega (arith, start, here) in
      let count = sym (run-rest is_digit text at) ∙ ap (λ (d : ℕ). d - at) (sym e) in
      let same = ap (λ (j : ℕ). number_of (drop j text)) exact ∙ ap (number_from (drop at text)) count ∙ sym s in
      digit-there text ws i (ap is_digit (first-there text (total (take i ws)) at start) ∙ digit)
      ∙ (λ j. cond (eqb (same j).kind (sym k j) && eqb (same j).len (sym l j)) (same j) no_number)

pub number_from-n-requires : goal.number_from-n-requires
unfolding member
number_from-n-requires c =
    let a = c.args in
    let digit = ap is_digit (sym c.peek-first.ensures) ∙ c.if-not-first.false in
    let at = c.token_start-at.result in (
      end-from a.src.now a.words.now a.number at c.token_start-at.ensures digit _ c.run_end-d.ensures.0,
      omega (arith, c.run_end-d.ensures.1, here a.src.now a.words.now a.number at c.token_start-at.ensures digit),
    )

pub returns-in_err-word : goal.returns-in_err-word
returns-in_err-word c =
    let none : length c.args.words.now ≤ c.args.number = search rules in
    let left : c.from_residual.result ≡ None = search rules in
    ap (λ (o : Option Number). unwrap_or o no_number) left ∙ sym (no_word_there c.args.src.now c.args.words.now c.args.number none)

pub returns-then-not-first : goal.returns-then-not-first
returns-then-not-first c =
    let a = c.args in
    let first = first-there a.src.now (total (take a.number a.words.now)) c.token_start-at.result c.token_start-at.ensures ∙ sym c.peek-first.ensures in
    sym (no_digit_there a.src.now a.words.now a.number (ap is_digit first ∙ c.if-not-first.true))

pub returns-then-n-kind_in : goal.returns-then-n-kind_in
unfolding member
returns-then-n-kind_in c =
    let a = c.args in
    let digit = ap is_digit (sym c.peek-first.ensures) ∙ c.if-not-first.false in
    let n = c.number_from-n.result in
    let word : c.in_ok-word.field-0.now ≡ get_or a.words.now a.number 0 = search rules in
    let told : number_parts a.src.now a.words.now a.number ≡ n =
    by_tests a.src.now a.words.now a.number c.token_start-at.result c.token_start-at.ensures digit c.run_end-d.result n _ _ c.run_end-d.ensures.0
    c.number_from-n.ensures (c.kind_in.ensures ∙ ap kind_in word) (c.length_in.ensures ∙ ap length_in word) ∙ ap (λ (b : Bool). cond b n no_number) c.if-n-kind_in.true in
    sym told

pub returns : goal.returns
unfolding member
returns c =
    let a = c.args in
    let digit = ap is_digit (sym c.peek-first.ensures) ∙ c.if-not-first.false in
    let n = c.number_from-n.result in
    let word : c.in_ok-word.field-0.now ≡ get_or a.words.now a.number 0 = search rules in
    let told : number_parts a.src.now a.words.now a.number ≡ no_number =
    by_tests a.src.now a.words.now a.number c.token_start-at.result c.token_start-at.ensures digit c.run_end-d.result n _ _ c.run_end-d.ensures.0
    c.number_from-n.ensures (c.kind_in.ensures ∙ ap kind_in word) (c.length_in.ensures ∙ ap length_in word) ∙ ap (λ (b : Bool). cond b n no_number) c.if-n-kind_in.false in
    sym told
