-- Each kind by its number, as the Rust's `SyntaxKind` counts them: of every mark and every word by its text, of literals and trivia by one text
-- each, of nodes by name; and which kinds are Names. Computed. Assumes nothing.
use Prim.Native.Nat.{ℕ}
use mathlib.Core.Path.{◌≡◌, refl}
use mathlib.Core.List.{List, [], ◌∷◌, ◌++◌, map}
use Rattle.aadl.specs.declared.Token.{Token}
use Rattle.aadl.specs.Kinds.{#◌, ERROR, WHITESPACE, COMMENT, INTEGER_LIT, REAL_LIT, STRING_LIT, IDENT}
use Rattle.aadl.specs.Kinds.{COMPONENT_CATEGORY, PROTOTYPE_BINDING, PROTOTYPE_BINDING_LIST, DIRECTION, PROPERTY_SECTION, PROPERTY_ASSOCIATION, PROPERTY_REF, APPLIES_TO, CONTAINMENT_PATH, IN_BINDING, MODAL_PROPERTY_VALUE, PROPERTY_EXPRESSION, BOOLEAN_VALUE, INTEGER_VALUE, REAL_VALUE, STRING_VALUE, RECORD_VALUE, RECORD_FIELD, LIST_VALUE, RANGE_VALUE, DELTA_VALUE, BINARY_EXPR, REFERENCE_VALUE, CLASSIFIER_VALUE, COMPUTED_VALUE, CLASSIFIER_REF}
use Rattle.aadl.specs.Words.{bytes}
use Rattle.aadl.specs.Tokens.{tokens}
use Rattle.aadl.specs.Symbols.{kinds}
use Rattle.aadl.specs.Section.{from, names}
use Rattle.aadl.proofs.Computing.{definitions}

abbrev all_kinds : List ℕ → List ℕ
all_kinds text = map (λ (t : Token). t.kind) (tokens text)

pub record Counted : Type 0 where
  -- one by one
  pub marks : kinds (bytes "; : , . .. ( ) { } [ ] -> <-> => +=> + - * / :: {** **} # -[ ]->") ≡ from 5 25
  -- with nothing between them the longest is taken; `<` and `=` begin no other mark
  pub marks-in-a-row :
      kinds (bytes "]-]->-[->{*{**}**}<-<->+=+=>=>:::...")
      ≡ 15 ∷ 21 ∷ 29 ∷ 28 ∷ 16 ∷ 12 ∷ 22 ∷ 25 ∷ 13 ∷ 26 ∷ 2 ∷ 21 ∷ 17 ∷ 20 ∷ 2 ∷ 19 ∷ 18 ∷ 24 ∷ 6 ∷ 9 ∷ 8 ∷ []
  pub words :
      kinds (bytes "package public private with end none renames system process thread group processor virtual bus memory device "
      ++ bytes "subprogram data abstract implementation extends prototypes features flows connections modes properties subcomponents "
      ++ bytes "annex calls internal in out port event access provides requires feature parameter inverse of flow source sink path "
      ++ bytes "initial mode transition constant applies to inherit delta is all binding classifier reference record compute type set "
      ++ bytes "range units enumeration list aadlboolean aadlinteger aadlreal aadlstring property true false not and or refined self "
      ++ bytes "interface file")
      ≡ from 34 81
  pub others : all_kinds (bytes "? 1,1.0,\"\",a--") ≡ 2 ∷ 3 ∷ 30 ∷ 7 ∷ 31 ∷ 7 ∷ 32 ∷ 7 ∷ 33 ∷ 4 ∷ []
  pub others-named :
      map #◌ (ERROR ∷ WHITESPACE ∷ COMMENT ∷ INTEGER_LIT ∷ REAL_LIT ∷ STRING_LIT ∷ IDENT ∷ []) ≡ 2 ∷ 3 ∷ 4 ∷ 30 ∷ 31 ∷ 32 ∷ 33 ∷ []
  pub nodes :
      map #◌ (PROPERTY_SECTION ∷ PROPERTY_ASSOCIATION ∷ PROPERTY_REF ∷ APPLIES_TO ∷ CONTAINMENT_PATH ∷ IN_BINDING ∷ MODAL_PROPERTY_VALUE ∷ [])
      ++ map #◌ (PROPERTY_EXPRESSION ∷ BOOLEAN_VALUE ∷ INTEGER_VALUE ∷ REAL_VALUE ∷ STRING_VALUE ∷ RECORD_VALUE ∷ RECORD_FIELD ∷ LIST_VALUE ∷ [])
      ++ map #◌ (RANGE_VALUE ∷ DELTA_VALUE ∷ BINARY_EXPR ∷ REFERENCE_VALUE ∷ CLASSIFIER_VALUE ∷ COMPUTED_VALUE ∷ CLASSIFIER_REF ∷ [])
      ++ map #◌ (COMPONENT_CATEGORY ∷ PROTOTYPE_BINDING ∷ PROTOTYPE_BINDING_LIST ∷ DIRECTION ∷ [])
      ≡ from 169 7 ++ from 181 10 ++ from 192 4 ++ (197 ∷ 127 ∷ 133 ∷ 134 ∷ 147 ∷ [])
  -- "Name: IDENT or keyword."
  pub all-names : names ≡ from 33 82

pub counted : Counted
unfolding definitions
counted = record { marks = refl; marks-in-a-row = refl; words = refl; others = refl; others-named = refl; nodes = refl; all-names = refl }
