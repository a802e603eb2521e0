-- The digits end behind the place, so the number is read there; its parts lie within the text (aadl's NumberLaws). Assumes nothing.
use Prim.Native.Nat.{ℕ, ◌+◌, ◌-◌, ◌≤◌}
use native.Mathlib.Omega.{arith}
use mathlib.Core.Path.{◌≡◌, refl, sym, ap, subst, ◌∙◌}
use mathlib.Core.Bool.{true}
use mathlib.Core.List.{List}
use lib.ListN.{length, take, drop, length-drop}
use lib.Seq.{get_or-drop, take_all}
use Rattle.aadl.specs.declared.Number.{Number}
use Rattle.aadl.specs.Bytes.{peek, is_digit}
use Rattle.aadl.specs.Bytes as B
use Rattle.aadl.specs.Tokens.{number_from, number_of}
use Rattle.aadl.specs.NumberParts.{PartsHold}
use Rattle.aadl.specs.Values.{literal_number}
use Rattle.aadl.proofs.RunLaws.{run_more, run-end_from, run-rest}
use Rattle.aadl.proofs.TokenBounds.{inside, number-upto}
use Rattle.aadl.proofs.NumberLaws.{parts-hold}
use Rattle.classes.specs.Classes.{member}
use Rattle.literals.proofs.literal_number.Goals as goal

-- a text from a place where a digit stands on, and the number that is read there
module _ (text : List ℕ) (at : ℕ) (h : is_digit (peek text at) ≡ true) where
  rest : take (length text - at) (drop at text) ≡ drop at text
  rest = take_all (length text - at) (drop at text) (omega (arith, length-drop at text))

  module _ (n : Number) (e : n ≡ number_of (drop at text)) where
    within-rest : PartsHold (drop at text) n × (n.len ≤ length (drop at text))
    within-rest =
        let zero : at + 0 ≡ at = omega arith in
        let digit = ap is_digit (get_or-drop at text 0 0 ∙ ap (peek text) zero) ∙ h in
        let here = inside is_digit refl text at h in
        (subst (PartsHold (drop at text)) (sym e) (parts-hold (drop at text)), omega (arith, (number-upto (drop at text) digit).to, ap (λ (m : Number). m.len) e, length-drop at text, here))

-- the number that is read is the text's
read : (text : List ℕ) (at d : ℕ) (n : Number) → n ≡ number_from (drop at text) (d - at) → d ≡ B.run_end is_digit text at → n ≡ number_of (drop at text)
unfolding number_of
read text at d n e f = e ∙ ap (number_from (drop at text)) (ap (λ (k : ℕ). k - at) f ∙ run-rest is_digit text at)

pub number_from-n-requires : goal.number_from-n-requires
unfolding member
number_from-n-requires c =
    let text = c.args.s.now in
    let at = c.args.at in
    let here = inside is_digit refl text at c.requires in
    (omega (arith, c.run_end-d.ensures.0, run_more is_digit text at here c.requires, run-end_from is_digit text (at + 1)), omega (arith, c.run_end-d.ensures.1, here))

pub by_parts-requires : goal.by_parts-requires
unfolding member
by_parts-requires c =
    let text = c.args.s.now in
    let at = c.args.at in
    let n = c.number_from-n in
    rw (rest text at c.requires) (within-rest text at c.requires n.result (read text at c.run_end-d.result n.result n.ensures c.run_end-d.ensures.0))

pub returns : goal.returns
unfolding literal_number member
returns c =
    let text = c.args.s.now in
    let at = c.args.at in
    let n = c.number_from-n in
    let by_rest = rw (rest text at c.requires, read text at c.run_end-d.result n.result n.ensures c.run_end-d.ensures.0) at c.by_parts.ensures in
    by_rest
