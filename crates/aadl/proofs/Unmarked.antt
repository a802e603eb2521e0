-- What 01's literal grammar derives does not depend on the mark of C-style literals: from the symbols, which carry it, it derives just
-- what it derives from the plain kinds. Only `wrong` names the mark, and it derives nothing, so the whole grammar passes the test of
-- `predictive` that no derivation looks at ERROR or C-STYLE. Assumes nothing.
use Prim.Native.Nat.{ℕ}
use mathlib.Core.Path.{◌≡◌, refl, sym, ap, ◌∙◌}
use mathlib.Core.Logic.{◌↔◌}
use mathlib.Core.Bool.{Bool, true, false, cond}
use mathlib.Core.List.{List, [], ◌∷◌, map}
use lib.Dec.{eqb}
use borrow.Author.Tests.{eqb-true, eqb-false, ne_eqb}
use Rattle.predictive.specs.Forest.{Forest}
use Rattle.predictive.specs.Grammar.{has, Derives}
use Rattle.predictive.specs.Reader.{ones}
use Rattle.predictive.proofs.Tests.{or_l, or_r, ◌and◌}
use Rattle.predictive.proofs.Relabel.{blind-kinds, blind-head, blind-heads, blind-choice, blind-forms, blind, derives-relabelled}
use Rattle.aadl.specs.Kinds.{#◌, ERROR}
use Rattle.aadl.specs.Symbols.{C_STYLE, shown}
use Rattle.aadl.specs.Section.{Rule, Expression, Negated, Operand, Classifier, keywords, names, rules, grammar, literal_section}

-- the two symbols that are shown as ERROR
abbrev odd : List ℕ
odd = # ERROR ∷ C_STYLE ∷ []

unequal_turned : (x k : ℕ) → eqb k x ≡ false → eqb x k ≡ false
unequal_turned x k n = ne_eqb x k (λ e. eqb-false k x n (sym e))

-- A symbol is told from every other kind by what it shows.
shown-keeps : (x k : ℕ) → has odd k ≡ false → eqb (shown x) k ≡ eqb x k
unfolding shown
shown-keeps x k n = by-mark (eqb x C_STYLE) refl
  where
    by-mark : (b : Bool) → eqb x C_STYLE ≡ b → eqb (cond b (# ERROR) x) k ≡ eqb x k
    by-mark true e =
        let not-error = unequal_turned (# ERROR) k (or_l (eqb k (# ERROR)) _ n) in
        let not-mark = unequal_turned C_STYLE k (or_l (eqb k C_STYLE) _ (or_r (eqb k (# ERROR)) _ n)) in
        not-error ∙ sym (ap (λ (y : ℕ). eqb y k) (eqb-true x C_STYLE e) ∙ not-mark)
    by-mark false e = refl

shown-again : (x : ℕ) → shown (shown x) ≡ shown x
unfolding shown
shown-again x = by-mark (eqb x C_STYLE) refl
  where
    by-mark : (b : Bool) → eqb x C_STYLE ≡ b → cond (eqb (cond b (# ERROR) x) C_STYLE) (# ERROR) (cond b (# ERROR) x) ≡ cond b (# ERROR) x
    by-mark true e = refl
    by-mark false e = rw e

rules-blind : (r : Rule) → blind odd (rules r) ≡ true
unfolding keywords names ones ◌and◌ blind-kinds blind-head blind-heads blind-choice blind-forms blind
rules-blind Expression = refl
rules-blind Negated = refl
rules-blind Operand = refl
rules-blind Classifier = refl

section-blind : blind odd literal_section ≡ true
unfolding keywords names ones ◌and◌ blind-kinds blind-head blind-heads blind-choice blind-forms blind
section-blind = refl

-- The literal grammar derives from the symbols just what it derives from the kinds that they show.
pub derives-unmarked : (f : Forest) (xs : List ℕ) → Derives grammar literal_section f xs [] ↔ Derives grammar literal_section f (map shown xs) []
derives-unmarked f xs = derives-relabelled grammar odd shown-keeps shown-again rules-blind literal_section section-blind f xs
