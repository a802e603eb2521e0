-- What operands begin with, and what the readers behind an opener read: the section grammar's parts, but for a sign, which is taken
-- whatever stands. Their caller has seen which opener stands. Assumes nothing.
use Rattle.std.specs.Prelude.{ℕ, List, [], ◌∷◌, ◌++◌}
use Rattle.predictive.specs.Grammar.{Part, any, rule}
use Rattle.predictive.specs.Notation.{◌·◌, ◌∣◌}
use Rattle.aadl.specs.Kinds.{PROPERTY_EXPRESSION, NOT_KW, L_PAREN, L_BRACKET, PLUS, MINUS, INTEGER_LIT, REAL_LIT, STRING_LIT, TRUE_KW, FALSE_KW, CLASSIFIER_KW, REFERENCE_KW, COMPUTE_KW, IDENT}
use Rattle.aadl.specs.Section.{Rule, Operand, numbers, node, not_value, list_value, record_value}

abbrev pub openers : List ℕ
openers = numbers (NOT_KW ∷ L_PAREN ∷ L_BRACKET ∷ PLUS ∷ MINUS ∷ [])

-- The kinds that begin an operand. A C-style literal, whose kind is ERROR, does too.
abbrev pub beginnings : List ℕ
beginnings = openers ++ numbers (INTEGER_LIT ∷ REAL_LIT ∷ STRING_LIT ∷ TRUE_KW ∷ FALSE_KW ∷ CLASSIFIER_KW ∷ REFERENCE_KW ∷ COMPUTE_KW ∷ IDENT ∷ [])

abbrev pub signed_value : Part Rule
signed_value = node PROPERTY_EXPRESSION (any · rule Operand)

abbrev pub opener_value : Part Rule
opener_value = not_value ∣ list_value ∣ record_value ∣ signed_value
