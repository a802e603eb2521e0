-- Tests of the kind that a symbol shows: a C-style literal shows ERROR, every other symbol itself. Assumes nothing.
use Prim.Native.Nat.{ℕ}
use mathlib.Core.Path.{◌≡◌, refl, sym, ap, ◌∙◌}
use mathlib.Core.Bool.{Bool, true, false, cond}
use mathlib.Core.List.{List, [], ◌∷◌}
use lib.Dec.{eqb}
use borrow.Author.Tests.{eqb-true, eq-eqb}
use Rattle.predictive.specs.Grammar.{has}
use Rattle.predictive.specs.Reader.{ones}
use Rattle.syntax_kind.proofs.KindSets.{joined, joined-has}
use Rattle.aadl.specs.Kinds.{#◌, ERROR}
use Rattle.aadl.specs.Symbols.{C_STYLE, shown}
use Rattle.parser.specs.declared.Counters.{Counters}
use Rattle.parser.specs.Input.{Input, END, nth}
use Rattle.parser.specs.Reads.{stands}
use Rattle.categories.proofs.Words.{kinds-are}

shown-has : (ks : List ℕ) (x : ℕ) → has ks (# ERROR) ≡ false → has ks C_STYLE ≡ false → has ks (shown x) ≡ has ks x
unfolding shown
shown-has ks x e f = go (eqb x 258) refl
  where
    go : (t : Bool) → eqb x 258 ≡ t → has ks (cond t (# ERROR) x) ≡ has ks x
    go true q = e ∙ sym f ∙ ap (has ks) (sym (eqb-true x 258 q))
    go false q = refl

-- The tests of some kinds, as code joins them, of what the symbol ahead shows.
pub shown-are : (inp : Input) (p : Counters) (k : ℕ) (ks : List ℕ) {y : ℕ} → has (k ∷ ks) END ≡ false → has (k ∷ ks) (# ERROR) ≡ false → has (k ∷ ks) C_STYLE ≡ false →
    y ≡ shown (nth inp p 0) → joined (eqb y k) ks y ≡ stands inp (ones (k ∷ ks)) p
shown-are inp p k ks {y} h e f g =
    joined-has (eqb y k) ks y ∙ ap (has (k ∷ ks)) g ∙ shown-has (k ∷ ks) (nth inp p 0) e f ∙ kinds-are inp p (k ∷ ks) h refl

-- A kind that no other symbol shows: it stands where it is shown.
abbrev pub Plain : ℕ → Type 0
Plain k = (has (k ∷ []) END ≡ false) × (has (k ∷ []) (# ERROR) ≡ false) × (has (k ∷ []) C_STYLE ≡ false)

pub shown-stands : (inp : Input) (p : Counters) (k : ℕ) {y : ℕ} → Plain k → y ≡ shown (nth inp p 0) → y ≡ k → stands inp (ones (k ∷ [])) p ≡ true
shown-stands inp p k {y} h g e = sym (shown-are inp p k [] h.0 h.1 h.2 g) ∙ eq-eqb y k e

-- None of some kinds stands where none is shown.
pub none-shown : (inp : Input) (p : Counters) (ks : List ℕ) {y : ℕ} → has ks END ≡ false → has ks (# ERROR) ≡ false → has ks C_STYLE ≡ false → y ≡ shown (nth inp p 0) →
    has ks y ≡ false → stands inp (ones ks) p ≡ false
none-shown inp p ks {y} h e f g n = sym (kinds-are inp p ks h refl) ∙ sym (shown-has ks (nth inp p 0) e f) ∙ ap (has ks) (sym g) ∙ n
