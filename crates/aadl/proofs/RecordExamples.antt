-- The records of some texts, and the tree call's answers, computed as in Examples. Assumes nothing.
use Prim.Native.Nat.{ℕ}
use mathlib.Core.Path.{◌≡◌, refl}
use mathlib.Core.List.{List, [], ◌∷◌}
use Rattle.predictive.specs.Forest.{leaves}
use Rattle.aadl.specs.Limits.{base}
use Rattle.aadl.specs.Kinds.{#◌, PROPERTY_SECTION, PROPERTY_ASSOCIATION, PROPERTY_REF, INTEGER_VALUE, RANGE_VALUE, BINARY_EXPR, APPLIES_TO, CONTAINMENT_PATH}
use Rattle.aadl.specs.Words.{bytes}
use Rattle.aadl.specs.Answers.{answered}
use Rattle.aadl.specs.Records.{Record, of_node, records_from, records, text_records, tree_refused, tree_call, tree_answer, with_records}
use Rattle.aadl.specs.Calls.{tokens_call, section_call}
use Rattle.aadl.proofs.Computing.{definitions}

abbrev recorded : List ℕ → List Record
recorded text = text_records base text

-- the section, its one association and that one's name, with so many tokens below the first two; and the records of the rest
abbrev association : (section association : ℕ) → List Record → List Record
association s a rest = of_node (# PROPERTY_SECTION) 0 0 s ∷ of_node (# PROPERTY_ASSOCIATION) 0 1 a ∷ of_node (# PROPERTY_REF) 1 1 1 ∷ rest

pub record Texts : Type 0 where
  pub bare : recorded (bytes "properties") ≡ of_node 169 0 0 1 ∷ []
  pub range :
      recorded (bytes "properties A => 1 .. 2;")
      ≡ association 7 6 (of_node (# RANGE_VALUE) 1 3 3 ∷ of_node (# INTEGER_VALUE) 3 3 1 ∷ of_node (# INTEGER_VALUE) 3 5 1 ∷ [])
  -- `1 * 2` is begun after the 1, and the whole after that; the whole opens first
  pub leaning :
      recorded (bytes "properties A => 1 * 2 * 3;")
      ≡ association 9 8
      (of_node (# BINARY_EXPR) 1 3 5
      ∷ of_node (# BINARY_EXPR) 3 3 3
      ∷ of_node (# INTEGER_VALUE) 4 3 1
      ∷ of_node (# INTEGER_VALUE) 4 5 1
      ∷ of_node (# INTEGER_VALUE) 3 7 1
      ∷ [])
  -- an empty node names the next untaken token, the `;` ..
  pub empty-path :
      recorded (bytes "properties A => 1 applies to ;")
      ≡ association 7 6 (of_node (# INTEGER_VALUE) 1 3 1 ∷ of_node (# APPLIES_TO) 1 4 2 ∷ of_node (# CONTAINMENT_PATH) 4 6 0 ∷ [])
  -- .. or, where all are taken, their number
  pub empty-at_end :
      recorded (bytes "properties A => 1 applies to")
      ≡ association 6 5 (of_node (# INTEGER_VALUE) 1 3 1 ∷ of_node (# APPLIES_TO) 1 4 2 ∷ of_node (# CONTAINMENT_PATH) 4 6 0 ∷ [])
  -- a message has no record
  pub no_value : recorded (bytes "properties A => ;") ≡ association 4 3 []

pub texts : Texts
unfolding definitions records_from records text_records leaves
texts = record { bare = refl; range = refl; leaning = refl; empty-path = refl; empty-at_end = refl; no_value = refl }

-- Four words are a record's; one record too few is refused after all else, at the token of the first node without one. A string that is not
-- closed is refused before the section is looked at.
pub record Answers : Type 0 where
  pub bare : tree_answer base (bytes "properties") 1 6 4 ≡ with_records (answered 1 1 3) 1
  pub no_words : tree_answer base (bytes " properties") 2 6 3 ≡ tree_refused 7 1
  pub one-short : tree_answer base (bytes "properties A => 1 .. 2;") 12 38 23 ≡ tree_refused 7 21
  pub enough : tree_answer base (bytes "properties A => 1 .. 2;") 12 38 24 ≡ with_records (answered 12 7 19) 6
  pub at_end : tree_answer base (bytes "properties A => 1 applies to") 100 100 23 ≡ tree_refused 7 28
  pub events-first : tree_answer base (bytes "properties A => 1 .. 2;") 12 37 0 ≡ tree_refused 5 23
  pub never-closed : tree_answer base (bytes "properties A => \"1") 7 0 0 ≡ tree_refused 8 16

pub answers : Answers
unfolding definitions records_from records text_records leaves tree_answer tree_call section_call tokens_call
answers = record { bare = refl; no_words = refl; one-short = refl; enough = refl; at_end = refl; events-first = refl; never-closed = refl }
