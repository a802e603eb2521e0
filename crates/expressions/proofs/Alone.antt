-- Operands behind which nothing more stands: what ends at once is read alike, whether there was an operand or not. Assumes nothing.
use Rattle.std.specs.Prelude.{Option, Some, None}
use Prim.Native.Nat.{ℕ}
use mathlib.Core.Path.{◌≡◌, refl}
use mathlib.Core.Bool.{Bool, true, false, cond}
use mathlib.Core.List.{List}
use lib.Dec.{eqb}
use Rattle.predictive.specs.Grammar.{Head, at, Choice, Part, leaning, suffix}
use Rattle.predictive.specs.Reader.{ones, first, null}
use Rattle.predictive.proofs.Heads.{same, among, within-heads, within-absent}
use Rattle.predictive.proofs.Lookahead.{single}
use Rattle.aadl.specs.Section.{Rule, grammar, operand, expression}
use Rattle.parser.specs.declared.Parser.{Parser}
use Rattle.parser.specs.declared.CompletedMarker.{CompletedMarker}
use Rattle.parser.specs.declared.Counters.{Counters}
use Rattle.parser.specs.Input.{Input, rest}
use Rattle.parser.specs.Reads.{stands, heads_of}
use Rattle.parser.specs.Parsers.{source, counters, stand, ReadsWithin, ReadsOperandWithin}
use Rattle.parser.proofs.Parsers.{x-none, x-stay, c-none, c-holds, c-done}
use Rattle.expressions.proofs.Operands.{single-operand, single-product, single-sum, factor, term, ranged, operators}

module _ {d k : ℕ} {P Q : Part Rule} {p r : Parser} where
  pub alone : {o : Option CompletedMarker} → single P ≡ true → ReadsOperandWithin d P p o r → stand (heads_of Q) r ≡ false →
      ReadsOperandWithin d (leaning k P Q) p o r
  alone {o = Some m} s x h = c-done (c-holds s x) h
  alone {o = None} s x h = c-none s x

  pub no_suffix : {a : Choice} {o : Option CompletedMarker} → single P ≡ true → ReadsOperandWithin d P p o r → stand (heads_of Q) r ≡ false →
      ReadsWithin d (suffix a k P Q) p r
  no_suffix {o = Some m} s x h = x-stay s x h
  no_suffix {o = None} s x h = x-none s x

-- Where none of some heads stands, none of fewer does.
pub fewer : (inp : Input) (gs hs : List Head) (p : Counters) → within-heads gs hs ≡ true → stands inp hs p ≡ false → stands inp gs p ≡ false
unfolding stands
fewer inp gs hs p w = go (eqb p.stop 0)
  where
    go : (t : Bool) → cond t (at hs (rest inp p)) false ≡ false → cond t (at gs (rest inp p)) false ≡ false
    go true e = within-absent gs hs (rest inp p) w e
    go false e = refl

-- An operand behind which no operator stands is an expression.
pub no_operator : {d : ℕ} {p r : Parser} {o : Option CompletedMarker} → ReadsOperandWithin d operand p o r → stand operators r ≡ false →
    ReadsWithin d expression p r
unfolding ones first null within-heads among same
no_operator {r = r} x n =
    let inp = source r.tokens in
    let q = counters r in
    no_suffix single-sum
    (alone single-product (alone single-operand x (fewer inp (first grammar factor) operators q refl n)) (fewer inp (first grammar term) operators q refl n))
    (fewer inp (first grammar ranged) operators q refl n)
