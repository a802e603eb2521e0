-- All forms of Direction and Category, in 01's order: one section that has each of them after a Binding's `=>`, computed as in Examples. Its
-- tree shows the tokens of each form and the node that they stand in; what stands behind a form is a Classifier. Assumes nothing.
use Prim.Native.Nat.{ℕ}
use Prim.Native.String.{String}
use mathlib.Core.Path.{◌≡◌, refl}
use mathlib.Core.Bool.{true}
use mathlib.Core.List.{List, [], ◌∷◌, ◌++◌}
use lib.ListN.{length}
use Rattle.predictive.specs.Forest.{Forest, nil, leaf, node}
use Rattle.predictive.specs.Tree.{spell}
use Rattle.aadl.specs.Limits.{base}
use Rattle.aadl.specs.Kinds.{Kind, #◌, COMMA, SEMICOLON, FAT_ARROW, L_PAREN, R_PAREN, IDENT, SYSTEM_KW, PROCESS_KW, THREAD_KW, GROUP_KW, PROCESSOR_KW, VIRTUAL_KW, BUS_KW, MEMORY_KW, DEVICE_KW, SUBPROGRAM_KW, DATA_KW, ABSTRACT_KW, PROPERTIES_KW, IN_KW, OUT_KW, PORT_KW, EVENT_KW, ACCESS_KW, PROVIDES_KW, REQUIRES_KW, FEATURE_KW, CLASSIFIER_KW}
use Rattle.aadl.specs.Kinds.{COMPONENT_CATEGORY, PROTOTYPE_BINDING, PROTOTYPE_BINDING_LIST, DIRECTION, PROPERTY_SECTION, PROPERTY_ASSOCIATION, PROPERTY_REF, CLASSIFIER_VALUE, CLASSIFIER_REF}
use Rattle.aadl.specs.Words.{bytes}
use Rattle.aadl.specs.Symbols.{symbols}
use Rattle.aadl.specs.Section.{direction_forms, feature_forms, component_forms}
use Rattle.aadl.specs.Reading.{events, reads_cleanly}
use Rattle.aadl.proofs.Computing.{definitions}

-- A form as it is written, and the kinds of its tokens.
pub data Listed : Type 0 where
  direction feature component : String → List Kind → Listed

abbrev listed : List Listed
listed =
    direction "in" (IN_KW ∷ []) ∷ direction "in out" (IN_KW ∷ OUT_KW ∷ []) ∷ direction "out" (OUT_KW ∷ []) ∷
    direction "provides" (PROVIDES_KW ∷ []) ∷ direction "requires" (REQUIRES_KW ∷ []) ∷
    feature "data port" (DATA_KW ∷ PORT_KW ∷ []) ∷ feature "event data" (EVENT_KW ∷ DATA_KW ∷ []) ∷
    feature "event data port" (EVENT_KW ∷ DATA_KW ∷ PORT_KW ∷ []) ∷ feature "event port" (EVENT_KW ∷ PORT_KW ∷ []) ∷
    feature "event" (EVENT_KW ∷ []) ∷ feature "data access" (DATA_KW ∷ ACCESS_KW ∷ []) ∷ feature "bus access" (BUS_KW ∷ ACCESS_KW ∷ []) ∷
    feature "feature" (FEATURE_KW ∷ []) ∷ feature "feature group" (FEATURE_KW ∷ GROUP_KW ∷ []) ∷ feature "port" (PORT_KW ∷ []) ∷
    feature "access" (ACCESS_KW ∷ []) ∷
    component "virtual bus" (VIRTUAL_KW ∷ BUS_KW ∷ []) ∷ component "virtual processor" (VIRTUAL_KW ∷ PROCESSOR_KW ∷ []) ∷
    component "thread" (THREAD_KW ∷ []) ∷ component "thread group" (THREAD_KW ∷ GROUP_KW ∷ []) ∷
    component "subprogram" (SUBPROGRAM_KW ∷ []) ∷ component "subprogram group" (SUBPROGRAM_KW ∷ GROUP_KW ∷ []) ∷
    component "system" (SYSTEM_KW ∷ []) ∷ component "process" (PROCESS_KW ∷ []) ∷ component "processor" (PROCESSOR_KW ∷ []) ∷
    component "bus" (BUS_KW ∷ []) ∷ component "memory" (MEMORY_KW ∷ []) ∷ component "device" (DEVICE_KW ∷ []) ∷
    component "data" (DATA_KW ∷ []) ∷ component "abstract" (ABSTRACT_KW ∷ []) ∷ []

abbrev written : Listed → List ℕ
written (direction s ks) = bytes s
written (feature s ks) = bytes s
written (component s ks) = bytes s

abbrev leaves_of : List Kind → Forest → Forest
leaves_of [] f = f
leaves_of (k ∷ ks) f = leaf (# k) (leaves_of ks f)

abbrev standing : Listed → Forest → Forest
standing (direction s ks) f = node (# DIRECTION) (leaves_of ks nil) f
standing (feature s ks) f = leaves_of ks f
standing (component s ks) f = node (# COMPONENT_CATEGORY) (leaves_of ks nil) f

-- the bindings `x => FORM T`, parted by commas, as text and as trees
abbrev binding-texts : List Listed → List ℕ
binding-texts [] = []
binding-texts (l ∷ []) = bytes "x => " ++ written l ++ bytes " T"
binding-texts (l ∷ m ∷ ls) = bytes "x => " ++ written l ++ bytes " T," ++ binding-texts (m ∷ ls)

abbrev binding-tree : Listed → Forest → Forest
binding-tree l f = node (# PROTOTYPE_BINDING) (leaf (# IDENT) (leaf (# FAT_ARROW) (standing l (node (# CLASSIFIER_REF) (leaf (# IDENT) nil) nil)))) f

abbrev binding-trees : List Listed → Forest
binding-trees [] = leaf (# R_PAREN) nil
binding-trees (l ∷ []) = binding-tree l (leaf (# R_PAREN) nil)
binding-trees (l ∷ m ∷ ls) = binding-tree l (leaf (# COMMA) (binding-trees (m ∷ ls)))

abbrev section-text : List ℕ
section-text = bytes "properties A => classifier (c (" ++ binding-texts listed ++ bytes "));"

pub record EveryForm : Type 0 where
  -- 01's five Directions and twenty-five Categories; the one form more is the broken `virtual`
  pub counted : (length direction_forms ≡ 5) × (length feature_forms ≡ 11) × (length component_forms ≡ 15)
  pub clean : reads_cleanly base (symbols section-text) ≡ true
  pub standing-so :
      spell (events base (symbols section-text))
      ≡ node (# PROPERTY_SECTION)
      (leaf (# PROPERTIES_KW)
      (node (# PROPERTY_ASSOCIATION)
      (node (# PROPERTY_REF) (leaf (# IDENT) nil)
      (leaf (# FAT_ARROW)
      (node (# CLASSIFIER_VALUE)
      (leaf (# CLASSIFIER_KW)
      (leaf (# L_PAREN)
      (node (# CLASSIFIER_REF) (leaf (# IDENT) (node (# PROTOTYPE_BINDING_LIST) (leaf (# L_PAREN) (binding-trees listed)) nil))
      (leaf (# R_PAREN) nil))))
      (leaf (# SEMICOLON) nil)))) nil)) nil

pub every-form : EveryForm
unfolding definitions reads_cleanly
every-form = record { counted = (refl, refl, refl); clean = refl; standing-so = refl }
