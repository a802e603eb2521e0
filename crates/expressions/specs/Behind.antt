-- The contracts of what is read behind an operand: whatever that was read from, the whole is read from. Assumes nothing.
use Rattle.std.specs.Prelude.{◌≡◌, true, [], ◌∷◌, Option}
use Rattle.predictive.specs.Grammar.{Part, one}
use Rattle.aadl.specs.Kinds.{#◌, DOT_DOT}
use Rattle.aadl.specs.Section.{Rule, operand, sum, expression}
use Rattle.parser.specs.declared.Parser.{Parser}
use Rattle.parser.specs.declared.CompletedMarker.{CompletedMarker}
use Rattle.parser.specs.Parsers.{Same, stand, ReadsWithin, ReadsOperandWithin}

-- From the part P, read to o and p, to the part Q, read to m and r.
pub record Extends (P Q : Part Rule) (o : Option CompletedMarker) (p : Parser) (m : Option CompletedMarker) (r : Parser) : Type 0 where
  pub on : (p₀ : Parser) → ReadsOperandWithin p₀.left P p₀ o p → ReadsOperandWithin p₀.left Q p₀ m r
  pub left : r.left ≡ p.left
  pub same : Same p r

-- From an operand to an expression.
pub record ToExpression (o : Option CompletedMarker) (p r : Parser) : Type 0 where
  pub on : (p₀ : Parser) → ReadsOperandWithin p₀.left operand p₀ o p → ReadsWithin p₀.left expression p₀ r
  pub same : Same p r

-- From a sum behind which `..` stands to an expression.
pub record ToRange (o : Option CompletedMarker) (p r : Parser) : Type 0 where
  pub on : (p₀ : Parser) → ReadsOperandWithin p₀.left sum p₀ o p → stand (one (# DOT_DOT) ∷ []) p ≡ true → ReadsWithin p₀.left expression p₀ r
  pub same : Same p r
