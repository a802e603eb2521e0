-- A part that names no node of a kind derives no forest with such a node; the test of a part is that of `Bounds`, with every message within
-- bounds. By induction over the derivation. Assumes nothing.
use Prim.Native.Nat.{ℕ}
use mathlib.Core.Path.{◌≡◌}
use mathlib.Core.Bool.{Bool, true, not}
use mathlib.Core.List.{List, [], ◌∷◌}
use lib.Dec.{eqb}
use Rattle.predictive.specs.Forest.{Forest, nil, leaf, err, node, wrap, ◌then◌, message}
use Rattle.predictive.specs.Grammar.{Form, row, row_in, broken, row_of, shape, Part, Grammar}
use Rattle.predictive.specs.Grammar.{Derives, Many, Leaning, d_tok, d_pair, d_look, d_any, d_any_end, d_longest, d_no_form, d_seq, d_left, d_right, d_some, d_none, d_many, d_until, d_at_once, d_inside, d_alone, d_with, d_leaning, d_before, d_opens, d_rule, m_nil, m_cons, l_one, l_more}
use Rattle.predictive.proofs.Tests.{◌and◌, left, right}
use Rattle.predictive.proofs.Bounds.{form_fits, part-fits, best-fits}

module _ (k : ℕ) where
  abbrev pub other : ℕ → Bool
  other l = not (eqb l k)

  -- no node of the kind k
  abbrev pub Absent : Forest → Type 0
  Absent nil = Unit {0}
  Absent (leaf l f) = Absent f
  Absent (err m f) = Absent f
  Absent (node l a f) = (other l ≡ true) × Absent a × Absent f
  Absent (wrap l a b f) = (other l ≡ true) × Absent a × Absent b × Absent f

  -- The part names none.
  abbrev pub lacks : {R : Type 0} → Part R → Bool
  lacks p = part-fits other (λ m. true) p

  absent-then : (f g : Forest) → Absent f → Absent g → Absent (f then g)
  absent-then nil g a b = b
  absent-then (leaf l f) g a b = absent-then f g a b
  absent-then (err m f) g a b = absent-then f g a b
  absent-then (node l i f) g a b = (a.0, a.1, absent-then f g a.2 b)
  absent-then (wrap l i j f) g a b = (a.0, a.1, a.2, absent-then f g a.3 b)

  absent-row : (shown : ℕ → ℕ) (ks : List ℕ) (f : Forest) → Absent f → Absent (row_of shown ks f)
  absent-row shown [] f a = a
  absent-row shown (l ∷ ks) f a = absent-row shown ks f a

  absent-shape : (shown : ℕ → ℕ) (c : Form) → form_fits other (λ m. true) c ≡ true → Absent (shape shown c)
  unfolding form_fits
  absent-shape shown (row ks) h = absent-row shown ks nil tt
  absent-shape shown (row_in l ks) h = (h, absent-row shown ks nil tt, tt)
  absent-shape shown (broken l ks m) h = (left _ _ h, absent-row shown ks (err (message m) nil) tt, tt)

  module _ (G : Grammar) (rules-lack : (r : G.Rule) → lacks (G.rules r) ≡ true) where
    mutual
      unfolding part-fits

      pub derives-absent : {p : Part G.Rule} {f : Forest} {xs ys : List ℕ} → Derives G p f xs ys → lacks p ≡ true → Absent f
      derives-absent (d_tok h e) n = rw e tt
      derives-absent (d_pair e) n = rw e tt
      derives-absent (d_look h e) n = rw e tt
      derives-absent (d_any e) n = rw e tt
      derives-absent d_any_end n = tt
      derives-absent (d_longest {cs = cs} {c = c} {xs = xs} b w x e) n = rw e (absent-shape G.shown c (best-fits other (λ m. true) G cs xs c n b))
      derives-absent (d_no_form b) n = tt
      derives-absent (d_seq {f = f} {g = g} a b e) n = rw e (absent-then f g (derives-absent a (left _ _ n)) (derives-absent b (right _ _ n)))
      derives-absent (d_left a) n = derives-absent a (left _ _ n)
      derives-absent (d_right a m) n = derives-absent a (right _ _ n)
      derives-absent (d_some a) n = derives-absent a n
      derives-absent (d_none m) n = tt
      derives-absent (d_many a) n = many-absent a (right _ _ n)
      derives-absent (d_until {k = l} {f = f} a e) n = rw e (absent-then f (leaf (G.shown l) nil) (derives-absent a (right _ _ n)) tt)
      derives-absent (d_at_once e) n = rw e tt
      derives-absent (d_inside a) n = (left _ _ n, derives-absent a (right _ _ n), tt)
      derives-absent (d_alone a m) n = derives-absent a (left _ _ (right _ _ n))
      derives-absent (d_with a b) n = (left _ _ n, derives-absent a (left _ _ (right _ _ n)), derives-absent b (right _ _ (right _ _ n)), tt)
      derives-absent (d_leaning a) n = leaning-absent a (left _ _ (left _ _ n)) (right _ _ n)
      derives-absent (d_before a m) n = derives-absent a n
      derives-absent (d_opens a) n = derives-absent a n
      derives-absent (d_rule {r = r} a) n = derives-absent a (rules-lack r)

      many-absent : {p : Part G.Rule} {f : Forest} {xs ys : List ℕ} → Many G p f xs ys → lacks p ≡ true → Absent f
      many-absent m_nil n = tt
      many-absent (m_cons {f = f} {g = g} a b e) n = rw e (absent-then f g (derives-absent a n) (many-absent b n))

      leaning-absent : {l : ℕ} {p q : Part G.Rule} {f : Forest} {xs ys : List ℕ} → Leaning G l p q f xs ys → other l ≡ true → (lacks p and lacks q) ≡ true → Absent f
      leaning-absent (l_one a) o n = derives-absent a (left _ _ n)
      leaning-absent (l_more a b) o n = (o, leaning-absent a o n, derives-absent b (right _ _ n), tt)
