-- The first values of a section's associations: for every derivation, the constant that an association's first value is comes to what the
-- pass gives from the association's start. The pass goes past the name, which has no arrow in it, the arrow and `constant`. Assumes nothing.
use Prim.Native.Nat.{ℕ, suc, ◌+◌}
use native.Mathlib.Omega.{arith}
use mathlib.Core.Path.{◌≡◌, refl, sym, ap, ◌∙◌}
use mathlib.Core.Logic.{⊎_elim}
use mathlib.Core.Bool.{false}
use mathlib.Core.List.{List, [], ◌∷◌, append-nil}
use mathlib.Core.Option.{Option}
use lib.ListN.{drop}
use lib.Dec.{eqb}
use lib.Seq.{drop-drop}
use Rattle.predictive.specs.Forest.{Forest, nil, node, ◌then◌, leaves}
use Rattle.predictive.specs.Grammar.{at, Part, seq, many, Many, d_seq, d_left, d_right, d_some, d_none, d_many, d_inside, m_nil, m_cons}
use Rattle.predictive.specs.Notation.{maybe}
use Rattle.predictive.specs.Reader.{ones, twos, heads_of, null, first}
use Rattle.predictive.proofs.Tests.{or_l}
use Rattle.predictive.proofs.Heads.{apart, clear, disjoint}
use Rattle.predictive.proofs.Begins.{begins-apart}
use Rattle.predictive.proofs.Forests.{then-assoc}
use Rattle.predictive.proofs.Consumed.{count, count-node, consumed}
use Rattle.aadl.specs.Kinds.{COMMA, SEMICOLON, FAT_ARROW, PLUS_ARROW, IDENT, CONSTANT_KW, PROPERTY_ASSOCIATION, #◌}
use Rattle.aadl.specs.Symbols.{shown}
use Rattle.aadl.specs.Section.{Rule, token, begun, heads, keywords, names, commas, value, modes, applies_to, in_binding, property_ref, association_rest, literal_association, literal_section, grammar}
use Rattle.aadl.specs.Values.{Association, Outcome, children, nth_tree, associations}
use Rattle.aadl.proofs.SectionTest.{tables, grammar-fine}
use Rattle.aadl.proofs.Lists.{Each}
use Rattle.evaluator.specs.Pass.{pass, evaluated, past_constant, past_arrow}
use Rattle.evaluator.proofs.Parts.{D, Token, the_token, either-token, Single, s-node, s-wrap, expression-single}
use Rattle.evaluator.proofs.Operands.{constant-in}
use Rattle.evaluator.proofs.Sums.{outcome, goes_on, expression-evaluated}

-- what may stand behind an Expression that is an association's value, and such values with what follows them
abbrev value-end : Part Rule
value-end = seq (maybe modes) (seq (many (seq (begun COMMA) value)) (seq (maybe applies_to) (seq (maybe in_binding) (token SEMICOLON))))

abbrev values : Part Rule
values = seq (commas value value) (seq (maybe applies_to) (seq (maybe in_binding) (token SEMICOLON)))

nothing-goes_on : {f : Forest} {xs ys : List ℕ} → D value-end f xs ys → at goes_on xs ≡ false
unfolding keywords names ones twos heads_of null first apart clear disjoint
nothing-goes_on d = begins-apart grammar tables grammar-fine goes_on d refl refl

no_constant-kw : {f : Forest} {xs ys : List ℕ} → D values f xs ys → at (heads (CONSTANT_KW ∷ [])) xs ≡ false
unfolding keywords names ones twos heads_of null first apart clear disjoint
no_constant-kw d = begins-apart grammar tables grammar-fine (heads (CONSTANT_KW ∷ [])) d refl refl

module _ (number-of-token : ℕ → Option ℕ) where
  -- BEHIND THE NAME ----------------------------------------------------------------------------------------------------

  -- what the tree with the number n comes to, of those that stand behind i tokens
  abbrev tree-value : (n i : ℕ) → Forest → Option Outcome
  tree-value n i f = outcome (nth_tree number-of-token n (children number-of-token i f))

  first-tree : (i : ℕ) (f g : Forest) → Single f → nth_tree number-of-token 0 (children number-of-token i (f then g)) ≡ constant-in number-of-token i f
  unfolding children
  first-tree i f g s-node = refl
  first-tree i f g s-wrap = refl

  values-evaluated : (i : ℕ) {f : Forest} {xs ys : List ℕ} → D values f xs ys → tree-value 0 i f ≡ evaluated number-of-token i xs
  values-evaluated i (d_seq {g = h} (d_seq {g = g} (d_seq {f = e} {g = m} a b q) c r) d s) =
      let t = s ∙ ap (λ (z : Forest). z then h) (r ∙ ap (λ (z : Forest). z then g) q ∙ then-assoc e m g) ∙ then-assoc e (m then g) h in
      rw t
      (ap outcome (first-tree i e ((m then g) then h) (expression-single a))
      ∙ sym (expression-evaluated number-of-token i a (nothing-goes_on (d_seq b (d_seq c d refl) refl))))

  not_passed : (i : ℕ) (xs : List ℕ) → at (heads (CONSTANT_KW ∷ [])) xs ≡ false → past_constant number-of-token i xs ≡ evaluated number-of-token i xs
  unfolding pass ones
  not_passed i [] n = refl
  not_passed i (x ∷ xs) n = rw (or_l (eqb x (# CONSTANT_KW)) false n) refl

  constant-evaluated : (i : ℕ) {f : Forest} {xs ys : List ℕ} → D (seq (maybe (begun CONSTANT_KW)) values) f xs ys →
      tree-value 0 i f ≡ past_constant number-of-token i xs
  unfolding children shown
  constant-evaluated i {xs = xs} (d_seq (d_none m) d q) = rw q (values-evaluated i d ∙ sym (not_passed i xs (no_constant-kw d)))
  constant-evaluated i (d_seq (d_some t) d q) =
      let e = the_token t in
      rw (q, e.0, e.1) (values-evaluated (suc i) d)

  rest-evaluated : (i : ℕ) {f : Forest} {xs ys : List ℕ} → D association_rest f xs ys → tree-value 0 i f ≡ past_arrow number-of-token i xs
  unfolding children shown past_arrow
  rest-evaluated i {xs = xs} (d_seq {f = a} {ys = ys} t d q) =
      let r = constant-evaluated (suc i) d in
      ⊎_elim
      (λ (e : Token (# FAT_ARROW) a xs ys). rw (q, e.0, e.1) r)
      (λ (e : Token (# PLUS_ARROW) a xs ys). rw (q, e.0, e.1) r)
      (either-token t)

  -- AN ASSOCIATION -----------------------------------------------------------------------------------------------------

  name-passed : (i : ℕ) (rest : Forest) {r : Forest} {xs ys : List ℕ} → D (property_ref (begun IDENT) (begun IDENT)) r xs ys →
      tree-value 0 (i + count r) rest ≡ past_arrow number-of-token (i + count r) ys → tree-value 1 i (r then rest) ≡ past_arrow number-of-token i xs
  unfolding children shown leaves past_arrow
  name-passed i rest {ys = ys} (d_inside (d_seq t (d_none m) q)) h =
      let e = the_token t in
      let p : i + 1 ≡ suc i = omega arith in
      let h' = rw (q, e.1) at h in
      rw (q, e.0, e.1) (h' ∙ ap (λ (j : ℕ). past_arrow number-of-token j ys) p)
  name-passed i rest {ys = ys} (d_inside (d_seq t (d_some (d_seq u v r)) q)) h =
      let a = the_token t in
      let b = the_token u in
      let c = the_token v in
      let p : i + 3 ≡ suc (suc (suc i)) = omega arith in
      let h' = rw (q, r, a.1, b.1, c.1) at h in
      rw (q, r, a.0, b.0, c.0, a.1, b.1, c.1) (h' ∙ ap (λ (j : ℕ). past_arrow number-of-token j ys) p)

  -- An association is one node; its first value comes to what the pass gives from its start.
  record Evaluated (i : ℕ) (f : Forest) (xs : List ℕ) : Type 0 where
    below : Forest
    one-node : f ≡ node (# PROPERTY_ASSOCIATION) below nil
    evaluates : tree-value 1 i below ≡ past_arrow number-of-token i xs

  association-evaluated : (i : ℕ) {f : Forest} {xs ys : List ℕ} → D literal_association f xs ys → Evaluated i f xs
  association-evaluated i (d_inside {f = g} (d_seq {f = r} {g = rest} a b q)) =
      record { below = g; one-node = refl; evaluates = rw q (name-passed i rest a (rest-evaluated (i + count r) b)) }

  -- THE SECTION --------------------------------------------------------------------------------------------------------

  -- What an association's constant comes to is what the pass gives from the association's start in the symbols xs.
  abbrev pub Right : List ℕ → Association → Type 0
  Right xs a = outcome a.constant ≡ past_arrow number-of-token a.first (drop a.first xs)

  after-node : (f h : Forest) (xs ys : List ℕ) → f ≡ node (# PROPERTY_ASSOCIATION) h nil → drop (count f) xs ≡ ys → drop (count h) xs ≡ ys
  after-node f h xs ys e c = rw (← (count-node (# PROPERTY_ASSOCIATION) h)) (rw e at c)

  many-right : (all : List ℕ) (i : ℕ) {f : Forest} {xs ys : List ℕ} → Many grammar literal_association f xs ys → drop i all ≡ xs →
      Each (Right all) (associations number-of-token i f)
  unfolding associations
  many-right all i m_nil e = tt
  many-right all i (m_cons {f = f} {xs = xs} {ys = ys} a b q) e =
      let v = association-evaluated i a in
      let n = count v.below in
      let c : drop (i + n) all ≡ ys = sym (drop-drop n i all) ∙ rw e (after-node f v.below xs ys v.one-node (consumed grammar a)) in
      rw (q, v.one-node) (v.evaluates ∙ ap (past_arrow number-of-token i) (sym e), many-right all (i + n) b c)

  -- For every derivation of a section from the symbols xs.
  pub section-right : (xs : List ℕ) {f : Forest} {ys : List ℕ} → D literal_section f xs ys → Each (Right xs) (associations number-of-token 0 f)
  unfolding associations shown
  section-right xs (d_inside (d_seq t (d_left (d_seq u v r)) q)) = rw (q, r, (the_token t).1, (the_token u).1, (the_token v).1) tt
  section-right xs (d_inside (d_seq {g = g} {ys = ys} t (d_right (d_many m) n) q)) =
      let e = the_token t in
      let d : drop 1 xs ≡ ys = rw e.0 refl in
      rw (q, e.1, append-nil (associations number-of-token 1 g)) (many-right xs 1 m d)
