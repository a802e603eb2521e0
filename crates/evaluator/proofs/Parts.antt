-- What is derived, taken apart: one of several parts, a token, and a single tree, as every operand, sum and Expression is. Assumes nothing.
use Prim.Native.Nat.{ℕ}
use mathlib.Core.Path.{◌≡◌, ap, ◌∙◌}
use mathlib.Core.Logic.{◌⊎◌, inl, inr, ⊎_elim}
use mathlib.Core.Bool.{true}
use mathlib.Core.List.{List, [], ◌∷◌}
use lib.Dec.{eqb}
use borrow.Author.Tests.{eqb-true}
use Rattle.predictive.specs.Forest.{Forest, nil, leaf, node, wrap}
use Rattle.predictive.specs.Grammar.{has, Choice, Part, tok, wrong, fail, either, inside, opens}
use Rattle.predictive.specs.Grammar.{Derives, Leaning, d_tok, d_left, d_right, d_inside, d_alone, d_with, d_leaning, d_opens, l_one, l_more}
use Rattle.predictive.proofs.Tests.{never, or_cases}
use Rattle.aadl.specs.Symbols.{shown}
use Rattle.aadl.specs.Section.{Rule, grammar, operand, product, expression}

abbrev pub D : Part Rule → Forest → List ℕ → List ℕ → Type 0
D p f xs ys = Derives grammar p f xs ys

-- ONE OF SEVERAL PARTS -------------------------------------------------------------------------------------------------

-- What follows from each of several parts.
infixr 55 ◌or◌
pub ◌or◌ : {c : Choice} {p q : Part Rule} {f : Forest} {xs ys : List ℕ} {A : Type 0} → (D p f xs ys → A) → (D q f xs ys → A) → D (either c p q) f xs ys → A
(a or b) (d_left d) = a d
(a or b) (d_right d m) = b d

pub opened : {p : Part Rule} {f : Forest} {xs ys : List ℕ} → D (opens p) f xs ys → D p f xs ys
opened (d_opens d) = d

pub nothing-wrong : {A : Type 0} {x k m : ℕ} {f : Forest} {xs ys : List ℕ} → D (wrong x k m) f xs ys → A
nothing-wrong d = elim d [ ]

pub nothing-fails : {A : Type 0} {m : ℕ} {f : Forest} {xs ys : List ℕ} → D (fail m) f xs ys → A
nothing-fails d = elim d [ ]

-- TOKENS ---------------------------------------------------------------------------------------------------------------

-- a token of one kind, from xs down to ys
abbrev pub Token : (k : ℕ) → Forest → (xs ys : List ℕ) → Type 0
Token k f xs ys = (xs ≡ k ∷ ys) × (f ≡ leaf (shown k) nil)

pub the_token : {m k : ℕ} {f : Forest} {xs ys : List ℕ} → D (tok m (k ∷ [])) f xs ys → Token k f xs ys
the_token {k = k} (d_tok {x = x} {xs = xs} h e) =
    let q : x ≡ k = ⊎_elim (λ (t : eqb x k ≡ true). eqb-true x k t) (λ t. never t) (or_cases (eqb x k) _ h) in
    (ap (λ (y : ℕ). y ∷ xs) q, e ∙ ap (λ (y : ℕ). leaf (shown y) nil) q)

pub either-token : {m k l : ℕ} {f : Forest} {xs ys : List ℕ} → D (tok m (k ∷ l ∷ [])) f xs ys → Token k f xs ys ⊎ Token l f xs ys
either-token {m} {k} {l} (d_tok {x = x} {xs = xs} h e) =
    ⊎_elim
    (λ (t : eqb x k ≡ true). let q = eqb-true x k t in inl (ap (λ (y : ℕ). y ∷ xs) q, e ∙ ap (λ (y : ℕ). leaf (shown y) nil) q))
    (λ t. inr (the_token {m = m} (d_tok t e)))
    (or_cases (eqb x k) (has (l ∷ []) x) h)

-- SINGLE TREES ---------------------------------------------------------------------------------------------------------

pub data Single : Forest → Type 0 where
  s-node : {k : ℕ} {a : Forest} → Single (node k a nil)
  s-wrap : {k : ℕ} {a b : Forest} → Single (wrap k a b nil)

boxed : {k : ℕ} {p : Part Rule} {f : Forest} {xs ys : List ℕ} → D (inside k p) f xs ys → Single f
boxed (d_inside d) = s-node

boxed-open : {k : ℕ} {p : Part Rule} {f : Forest} {xs ys : List ℕ} → D (opens (inside k p)) f xs ys → Single f
boxed-open d = boxed (opened d)

-- Leaning parts are one tree where the first is.
pub lean-single : {k : ℕ} {p q : Part Rule} {f : Forest} {xs ys : List ℕ} → ((g : Forest) (us vs : List ℕ) → D p g us vs → Single g) →
    Leaning grammar k p q f xs ys → Single f
lean-single one (l_one d) = one _ _ _ d
lean-single one (l_more l d) = s-wrap

pub operand-single : {f : Forest} {xs ys : List ℕ} → D operand f xs ys → Single f
operand-single =
    boxed or boxed or boxed or boxed or boxed-open
    or boxed or boxed or boxed or boxed-open or boxed-open
    or boxed or boxed-open or nothing-wrong or nothing-fails

pub product-single : {f : Forest} {xs ys : List ℕ} → D product f xs ys → Single f
product-single (d_leaning l) = lean-single (λ g us vs d. operand-single d) l

pub expression-single : {f : Forest} {xs ys : List ℕ} → D expression f xs ys → Single f
expression-single (d_alone (d_leaning l) m) = lean-single (λ g us vs d. product-single d) l
expression-single (d_with d e) = s-wrap
