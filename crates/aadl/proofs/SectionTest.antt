-- The section grammar passes the lookahead test: what stands next, one token or two, tells the reader every choice. The test is
-- computed over the whole grammar; the two tables claim of each rule with which heads its reader would go on, and which cannot
-- stand after it, and are part of what is tested. Assumes nothing.
use mathlib.Core.Path.{◌≡◌, refl}
use mathlib.Core.Bool.{true}
use mathlib.Core.List.{List, [], ◌∷◌}
use Rattle.predictive.specs.Grammar.{Head}
use Rattle.predictive.specs.Reader.{ones, twos, heads_of, null, first}
use Rattle.predictive.proofs.Tests.{◌and◌}
use Rattle.predictive.proofs.Heads.{apart, clear, disjoint, same, among, within-heads, minus}
use Rattle.predictive.proofs.Lookahead.{Tables, fits, sides, single, ends, shuts, all-shut, good, Fine}
use Rattle.aadl.specs.Kinds.{DOT, DOT_DOT, L_PAREN, PLUS, MINUS, STAR, SLASH, COLON_COLON, IDENT, DELTA_KW}
use Rattle.aadl.specs.Section.{Rule, Expression, Negated, Operand, Classifier, keywords, names, heads, grammar, section}

abbrev ends_of : Rule → List Head
ends_of Expression = heads (IDENT ∷ COLON_COLON ∷ STAR ∷ SLASH ∷ PLUS ∷ MINUS ∷ DOT_DOT ∷ DELTA_KW ∷ [])
ends_of Negated = heads (IDENT ∷ COLON_COLON ∷ STAR ∷ SLASH ∷ PLUS ∷ MINUS ∷ [])
ends_of Operand = heads (IDENT ∷ COLON_COLON ∷ [])
ends_of Classifier = heads (COLON_COLON ∷ DOT ∷ L_PAREN ∷ [])

abbrev shut-of : Rule → List Head
shut-of Expression = []
shut-of Negated = heads (PLUS ∷ MINUS ∷ STAR ∷ SLASH ∷ [])
shut-of Operand = []
shut-of Classifier = []

abbrev pub tables : Tables grammar
tables = record { ends_of = ends_of; shut-of = shut-of }

pub grammar-fine : Fine grammar tables
unfolding keywords names ones twos heads_of null first ◌and◌ apart clear disjoint same among within-heads minus fits sides single ends shuts all-shut good
grammar-fine =
    record {
      first-in = elim [ Expression ↦ refl | Negated ↦ refl | Operand ↦ refl | Classifier ↦ refl ];
      not_null = elim [ Expression ↦ refl | Negated ↦ refl | Operand ↦ refl | Classifier ↦ refl ];
      ends-in = elim [ Expression ↦ refl | Negated ↦ refl | Operand ↦ refl | Classifier ↦ refl ];
      shut-in = elim [ Expression ↦ refl | Negated ↦ refl | Operand ↦ refl | Classifier ↦ refl ];
      all-good = elim [ Expression ↦ refl | Negated ↦ refl | Operand ↦ refl | Classifier ↦ refl ];
    }

pub section-good : good grammar tables section ≡ true
unfolding keywords names ones twos heads_of null first ◌and◌ apart clear disjoint same among within-heads minus fits sides single ends shuts all-shut good
section-good = refl
