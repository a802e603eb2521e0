-- Which form of the tables is read where the tests of the code have said what stands: directions, component categories, and the
-- categories of features. By cases on the word after, where a longer form hangs on it; the rest is computed. Assumes nothing.
use Prim.Native.Nat.{ℕ}
use mathlib.Core.Path.{◌≡◌, refl, sym, ap, ◌∙◌}
use mathlib.Core.Bool.{Bool, true, false, ◌||◌}
use mathlib.Core.List.{List, [], ◌∷◌, ◌++◌}
use mathlib.Core.Option.{Option}
use lib.Dec.{eqb}
use Rattle.predictive.specs.Grammar.{Head, one, two, is, at, has, Form, best, free, Part, tok, any, opt}
use Rattle.predictive.specs.Notation.{◌·◌}
use Rattle.predictive.specs.Reader.{ones, first, take_one, take_any, take_form, step, read}
use Rattle.predictive.proofs.Tests.{never, or_l, or_r}
use Rattle.predictive.proofs.Heads.{at-neither, same, among, apart, clear, disjoint, disjoint-excludes}
use Rattle.aadl.specs.Kinds.{THREAD_KW, GROUP_KW, PROCESSOR_KW, VIRTUAL_KW, BUS_KW, SUBPROGRAM_KW, DATA_KW, COMPONENT_CATEGORY, DIRECTION, #◌}
use Rattle.aadl.specs.Kinds.{IN_KW, OUT_KW, PORT_KW, EVENT_KW, ACCESS_KW, PROVIDES_KW, REQUIRES_KW, FEATURE_KW}
use Rattle.aadl.specs.Symbols.{shown}
use Rattle.aadl.specs.Section.{Rule, begun, numbers, node, heads, direction, component_category, component_forms, feature_forms, category_forms, category}
use Rattle.syntax_kind.specs.Categories.{categories}
use Rattle.parser.specs.declared.Counters.{Counters}
use Rattle.parser.specs.Input.{Input, END, nth}
use Rattle.parser.specs.Reads.{stands}
use Rattle.categories.proofs.Words.{begins-one, begins-two, ◌also◌, no_more, begins-any, follows, kinds-are, best_none, best-append, Alike, maybe-form}

-- DIRECTIONS -----------------------------------------------------------------------------------------------------------

module _ (d : ℕ) where
  abbrev in_part : Part Rule
  in_part = node DIRECTION (begun IN_KW · opt free (begun OUT_KW))

  pub in_form : (xs : List ℕ) → at (heads (IN_KW ∷ [])) xs ≡ true → Alike d in_part direction xs
  unfolding read step first ones take_one take_form best
  in_form =
      begins-one (# IN_KW) (Alike d in_part direction)
      (follows (# OUT_KW) (λ (ys : List ℕ). Alike d in_part direction (# IN_KW ∷ ys)) (λ n. refl) (λ ys n. refl) (λ y ys e n. rw e refl))

  pub lone-direction : (xs : List ℕ) → at (heads (OUT_KW ∷ PROVIDES_KW ∷ REQUIRES_KW ∷ [])) xs ≡ true → Alike d (node DIRECTION any) direction xs
  unfolding read step take_any take_form best
  lone-direction = begins-any (Alike d (node DIRECTION any) direction) ((λ ys n. refl) also (λ ys n. refl) also (λ ys n. refl) also no_more)

-- COMPONENT CATEGORIES -------------------------------------------------------------------------------------------------

no_category : has categories END ≡ false
unfolding categories
no_category = refl

-- The test whether a component's category begins.
pub component-word : (inp : Input) (p : Counters) {x : ℕ} {r t : Bool} → x ≡ nth inp p 0 → r ≡ has categories x → r ≡ t → stands inp (ones categories) p ≡ t
component-word inp p e f g = sym (kinds-are inp p categories no_category e) ∙ sym f ∙ g

module _ (d : ℕ) where
  abbrev virtual_part : Part Rule
  virtual_part = node COMPONENT_CATEGORY (begun VIRTUAL_KW · tok 8 (numbers (BUS_KW ∷ PROCESSOR_KW ∷ [])))

  pub virtual_form : (xs : List ℕ) → at (heads (VIRTUAL_KW ∷ [])) xs ≡ true → Alike d virtual_part component_category xs
  unfolding read step ones take_one take_form best
  virtual_form =
      begins-one (# VIRTUAL_KW) (Alike d virtual_part component_category)
      (follows (# BUS_KW) F (λ n. refl) (λ ys n. refl)
      (λ y ys. follows (# PROCESSOR_KW) (λ (zs : List ℕ). is (# BUS_KW) zs ≡ false → F zs) (λ e n. refl) (λ zs e n. refl) (λ z zs f e n. rw (e, f) refl) (y ∷ ys)))
    where
      F : List ℕ → Type 0
      F ys = Alike d virtual_part component_category (# VIRTUAL_KW ∷ ys)

  abbrev group_part : Part Rule
  group_part = node COMPONENT_CATEGORY (any · opt free (begun GROUP_KW))

  pub group_form : (xs : List ℕ) → at (heads (THREAD_KW ∷ SUBPROGRAM_KW ∷ [])) xs ≡ true → Alike d group_part component_category xs
  unfolding read step first take_one take_any take_form best
  group_form =
      begins-any (Alike d group_part component_category)
      (follows (# GROUP_KW) (λ (ys : List ℕ). Alike d group_part component_category (# THREAD_KW ∷ ys)) (λ n. refl) (λ ys n. refl) (λ y ys e n. rw e refl)
      also follows (# GROUP_KW) (λ (ys : List ℕ). Alike d group_part component_category (# SUBPROGRAM_KW ∷ ys)) (λ n. refl) (λ ys n. refl) (λ y ys e n. rw e refl)
      also no_more)

  pub lone-component : (xs : List ℕ) → at (ones categories) xs ≡ true → at (heads (VIRTUAL_KW ∷ THREAD_KW ∷ SUBPROGRAM_KW ∷ [])) xs ≡ false →
      Alike d (node COMPONENT_CATEGORY any) component_category xs
  unfolding read step take_any take_form best ones categories
  lone-component =
      begins-any F
      ((λ ys e n. refl) also (λ ys e n. refl) also (λ ys e. never (sym e)) also (λ ys e n. refl) also (λ ys e. never (sym e)) also (λ ys e n. refl)
      also (λ ys e n. refl) also (λ ys e n. refl) also (λ ys e. never (sym e)) also (λ ys e n. refl) also (λ ys e n. refl) also no_more)
    where
      F : List ℕ → Type 0
      F xs = at (heads (VIRTUAL_KW ∷ THREAD_KW ∷ SUBPROGRAM_KW ∷ [])) xs ≡ false → Alike d (node COMPONENT_CATEGORY any) component_category xs

-- CATEGORIES OF FEATURES -----------------------------------------------------------------------------------------------

module _ (d : ℕ) where
  abbrev event-data_part : Part Rule
  event-data_part = (begun EVENT_KW · begun DATA_KW) · opt free (begun PORT_KW)

  pub event-data_form : (xs : List ℕ) → at (two (# EVENT_KW) (# DATA_KW) ∷ []) xs ≡ true → Alike d event-data_part category xs
  unfolding read step first take_one take_form best
  event-data_form =
      begins-two (# EVENT_KW) (# DATA_KW) (Alike d event-data_part category)
      (follows (# PORT_KW) (λ (ys : List ℕ). Alike d event-data_part category (# EVENT_KW ∷ # DATA_KW ∷ ys)) (λ n. refl) (λ ys n. refl) (λ y ys e n. rw e refl))

  -- `event` alone
  pub event-form : (xs : List ℕ) → at (one (# EVENT_KW) ∷ []) xs ≡ true → at (two (# EVENT_KW) (# DATA_KW) ∷ two (# EVENT_KW) (# PORT_KW) ∷ []) xs ≡ false →
      Alike d (begun EVENT_KW) category xs
  unfolding read step take_one take_form best
  event-form = begins-one (# EVENT_KW) F alone
    where
      F : List ℕ → Type 0
      F xs = at (two (# EVENT_KW) (# DATA_KW) ∷ two (# EVENT_KW) (# PORT_KW) ∷ []) xs ≡ false → Alike d (begun EVENT_KW) category xs

      alone : (ys : List ℕ) → F (# EVENT_KW ∷ ys)
      alone [] e n = refl
      alone (y ∷ ys) e n =
          let f = or_l (eqb y (# DATA_KW)) (eqb y (# PORT_KW) || false) e in
          let g = or_l (eqb y (# PORT_KW)) false (or_r (eqb y (# DATA_KW)) (eqb y (# PORT_KW) || false) e) in
          rw (f, g) refl

  abbrev feature-part : Part Rule
  feature-part = begun FEATURE_KW · opt free (begun GROUP_KW)

  pub feature-form : (xs : List ℕ) → at (one (# FEATURE_KW) ∷ []) xs ≡ true → Alike d feature-part category xs
  unfolding read step first take_one take_form best
  feature-form =
      begins-one (# FEATURE_KW) (Alike d feature-part category)
      (follows (# GROUP_KW) (λ (ys : List ℕ). Alike d feature-part category (# FEATURE_KW ∷ ys)) (λ n. refl) (λ ys n. refl) (λ y ys e n. rw e refl))

-- What the features' categories begin with, but for `port` and `access` alone.
abbrev pub feature-heads : List Head
feature-heads =
    two (# DATA_KW) (# PORT_KW) ∷ two (# EVENT_KW) (# DATA_KW) ∷ two (# EVENT_KW) (# PORT_KW) ∷ one (# EVENT_KW) ∷
    two (# DATA_KW) (# ACCESS_KW) ∷ two (# BUS_KW) (# ACCESS_KW) ∷ one (# FEATURE_KW) ∷ []

-- A component's category, where none of a feature stands.
pub component-form : (d : ℕ) (xs : List ℕ) → at (ones categories) xs ≡ true → at feature-heads xs ≡ false → Alike d component_category category xs
unfolding read step ones categories among same disjoint clear apart
component-form d xs c e n =
    let ps = one (# PORT_KW) ∷ one (# ACCESS_KW) ∷ [] in
    let a : at (feature-heads ++ ps) xs ≡ false = at-neither feature-heads ps xs e (disjoint-excludes (ones categories) ps xs refl c) in
    ap (λ (o : Option Form). take_form shown o xs) (sym (best-append feature_forms component_forms xs (best_none (feature-heads ++ ps) feature_forms xs refl a)))

-- What every category but `access` begins with; where none of that stands, `access` is left, or nothing.
abbrev pub other-heads : List Head
other-heads = (one (# PORT_KW) ∷ feature-heads) ++ ones categories

pub access_form : (d : ℕ) (xs : List ℕ) → at other-heads xs ≡ false → Alike d (opt free (begun ACCESS_KW)) category xs
unfolding ones categories among same best
access_form d = maybe-form other-heads category_forms d (# ACCESS_KW) refl (λ ys. refl)
