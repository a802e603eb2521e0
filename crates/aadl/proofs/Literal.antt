-- The grammar as it is read derives just what 01's literal grammar derives. The two differ in the names of a PROPERTY_REF, where a
-- keyword before COLON is read as a name too, and in that a `none` after `properties` begins no association. No derivation has a
-- name before COLON, since `::` or an arrow follows it; and no literal association begins with `none`. Assumes nothing.
use Prim.Native.Nat.{ℕ}
use mathlib.Core.Path.{◌≡◌, refl, sym, ◌∙◌}
use mathlib.Core.Logic.{◌↔◌}
use mathlib.Core.Bool.{true, false}
use mathlib.Core.List.{List, [], ◌∷◌}
use lib.Dec.{eqb}
use borrow.Author.Tests.{eq-eqb}
use Rattle.predictive.specs.Forest.{Forest}
use Rattle.predictive.specs.Grammar.{Head, one, at, Part, look, seq}
use Rattle.predictive.specs.Grammar.{Derives, Many, d_look, d_seq, d_left, d_right, d_some, d_none, d_many, d_inside, m_nil, m_cons}
use Rattle.predictive.specs.Reader.{ones, twos, heads_of, null, first}
use Rattle.predictive.proofs.Tests.{never, or_true_l}
use Rattle.predictive.proofs.Heads.{apart, clear, disjoint}
use Rattle.predictive.proofs.Begins.{begins-apart}
use Rattle.aadl.specs.Kinds.{#◌, COLON, COLON_COLON, IDENT, NONE_KW}
use Rattle.aadl.specs.Section.{Rule, begun, grammar, property_name, property_ref, association_rest, literal_association, read_association, literal_section, section}
use Rattle.aadl.proofs.SectionTest.{tables, grammar-fine}

abbrev D : Part Rule → Forest → List ℕ → List ℕ → Type 0
D p f xs ys = Derives grammar p f xs ys

-- no COLON, or no `none`, stands
abbrev No : List Head → List ℕ → Type 0
No hs xs = at hs xs ≡ false

abbrev colon : List Head
colon = one (# COLON) ∷ []

abbrev none-kw : List Head
none-kw = one (# NONE_KW) ∷ []

-- `::`, an arrow and an association's name are none of these
colons_apart : {f : Forest} {xs ys : List ℕ} → D (begun COLON_COLON) f xs ys → No colon xs
unfolding ones twos heads_of null first apart clear disjoint
colons_apart d = begins-apart grammar tables grammar-fine colon d refl refl

arrow-apart : {f : Forest} {xs ys : List ℕ} → D association_rest f xs ys → No colon xs
unfolding ones twos heads_of null first apart clear disjoint
arrow-apart d = begins-apart grammar tables grammar-fine colon d refl refl

name-apart : {f : Forest} {xs ys : List ℕ} → D literal_association f xs ys → No none-kw xs
unfolding ones twos heads_of null first apart clear disjoint
name-apart d = begins-apart grammar tables grammar-fine none-kw d refl refl

-- FROM THE GRAMMAR AS IT IS READ ---------------------------------------------------------------------------------------

colon-follows : {m l : ℕ} {ks : List ℕ} {f : Forest} {xs ys : List ℕ} → D (look m ks l) f xs ys → at (one l ∷ []) ys ≡ true
colon-follows (d_look {l = l} h i) = or_true_l (eqb l l) false (eq-eqb l l refl)

to-name : {m : ℕ} {f : Forest} {xs ys : List ℕ} → D (property_name m) f xs ys → No colon ys → D (begun IDENT) f xs ys
to-name (d_left a) c = a
to-name (d_right a m) c = never (sym c ∙ colon-follows a)

to-second : {m : ℕ} {f : Forest} {xs ys : List ℕ} → D (seq (begun COLON_COLON) (property_name m)) f xs ys → No colon ys → D (seq (begun COLON_COLON) (begun IDENT)) f xs ys × No colon xs
to-second (d_seq a b e) c = (d_seq a (to-name b c) e, colons_apart a)

to-ref : {f : Forest} {xs ys : List ℕ} → D (property_ref (property_name 3) (property_name 2)) f xs ys → No colon ys → D (property_ref (begun IDENT) (begun IDENT)) f xs ys
to-ref (d_inside (d_seq a (d_some b) e)) c =
    let s = to-second b c in
    d_inside (d_seq (to-name a s.1) (d_some s.0) e)
to-ref (d_inside (d_seq a (d_none m) e)) c = d_inside (d_seq (to-name a c) (d_none m) e)

to-literal : {f : Forest} {xs ys : List ℕ} → D read_association f xs ys → D literal_association f xs ys
to-literal (d_inside (d_seq a b e)) = d_inside (d_seq (to-ref a (arrow-apart b)) b e)

many-to_literal : {f : Forest} {xs ys : List ℕ} → Many grammar read_association f xs ys → Many grammar literal_association f xs ys
many-to_literal m_nil = m_nil
many-to_literal (m_cons a b e) = m_cons (to-literal a) (many-to_literal b) e

-- FROM 01'S LITERAL GRAMMAR --------------------------------------------------------------------------------------------

from-literal : {f : Forest} {xs ys : List ℕ} → D literal_association f xs ys → D read_association f xs ys
from-literal (d_inside (d_seq (d_inside (d_seq a (d_some (d_seq b c h)) g)) d e)) =
    d_inside (d_seq (d_inside (d_seq (d_left a) (d_some (d_seq b (d_left c) h)) g)) d e)
from-literal (d_inside (d_seq (d_inside (d_seq a (d_none m) g)) d e)) = d_inside (d_seq (d_inside (d_seq (d_left a) (d_none m) g)) d e)

many-from_literal : {f : Forest} {xs ys : List ℕ} → Many grammar literal_association f xs ys → Many grammar read_association f xs ys
many-from_literal m_nil = m_nil
many-from_literal (m_cons a b e) = m_cons (from-literal a) (many-from_literal b) e

no_none : {f : Forest} {xs ys : List ℕ} → Many grammar literal_association f xs ys → ys ≡ [] → No none-kw xs
no_none m_nil e = rw e
no_none (m_cons a b h) e = name-apart a

-- THE THEOREM ----------------------------------------------------------------------------------------------------------

-- The grammar that is read derives exactly the forests that 01's literal grammar derives.
pub read-is_literal : (f : Forest) (xs : List ℕ) → D section f xs [] ↔ D literal_section f xs []
read-is_literal f xs = (to, λ d. from d refl)
  where
    to : {f : Forest} {xs ys : List ℕ} → D section f xs ys → D literal_section f xs ys
    to (d_inside (d_seq a (d_left b) e)) = d_inside (d_seq a (d_left b) e)
    to (d_inside (d_seq a (d_right (d_many b) m) e)) = d_inside (d_seq a (d_right (d_many (many-to_literal b)) tt) e)

    from : {f : Forest} {xs ys : List ℕ} → D literal_section f xs ys → ys ≡ [] → D section f xs ys
    from (d_inside (d_seq a (d_left b) e)) q = d_inside (d_seq a (d_left b) e)
    from (d_inside (d_seq a (d_right (d_many b) m) e)) q = d_inside (d_seq a (d_right (d_many (many-from_literal b)) (no_none b q)) e)
