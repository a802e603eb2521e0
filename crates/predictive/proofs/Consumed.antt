-- A derivation takes as many symbols as its forest has leaves: what it leaves is what is left after so many. By induction over the
-- derivation. Assumes nothing.
use Prim.Native.Nat.{ℕ, ◌+◌}
use native.Mathlib.Omega.{arith}
use mathlib.Core.Path.{◌≡◌, refl, sym, ap, ◌∙◌}
use mathlib.Core.List.{List, [], ◌∷◌, ◌++◌, append-nil}
use lib.ListN.{length, length-append, drop}
use lib.Seq.{drop-drop}
use Rattle.predictive.specs.Forest.{Forest, nil, leaf, err, node, wrap, ◌then◌, leaves, message}
use Rattle.predictive.specs.Grammar.{Form, row, row_in, broken, kinds_of, row_of, shape, Part, Grammar}
use Rattle.predictive.specs.Grammar.{Derives, Many, Leaning, d_tok, d_pair, d_look, d_any, d_any_end, d_longest, d_no_form, d_seq, d_left, d_right, d_some, d_none, d_many, d_until, d_at_once, d_inside, d_alone, d_with, d_leaning, d_before, d_opens, d_rule, m_nil, m_cons, l_one, l_more}
use Rattle.predictive.proofs.Forests.{leaves-then}
use Rattle.predictive.proofs.Heads.{drop_append}

-- LEAVES COUNTED -------------------------------------------------------------------------------------------------------

abbrev pub count : Forest → ℕ
count f = length (leaves f)

pub count-then : (f g : Forest) → count (f then g) ≡ count f + count g
count-then f g = ap length (leaves-then f g) ∙ length-append (leaves f) (leaves g)

pub count-node : (k : ℕ) (f : Forest) → count (node k f nil) ≡ count f
unfolding leaves
count-node k f = ap length (append-nil (leaves f))

pub count-wrap : (k : ℕ) (f g : Forest) → count (wrap k f g nil) ≡ count f + count g
unfolding leaves
count-wrap k f g = ap length (append-nil (leaves f ++ leaves g)) ∙ length-append (leaves f) (leaves g)

count-row : (shown : ℕ → ℕ) (ks : List ℕ) (f : Forest) → count (row_of shown ks f) ≡ length ks + count f
unfolding leaves
count-row shown [] f = omega arith
count-row shown (k ∷ ks) f = omega (arith, count-row shown ks f)

pub count-shape : (shown : ℕ → ℕ) (c : Form) → count (shape shown c) ≡ length (kinds_of c)
unfolding leaves
count-shape shown (row ks) = omega (arith, count-row shown ks nil)
count-shape shown (row_in k ks) = omega (arith, count-node k (row_of shown ks nil), count-row shown ks nil)
count-shape shown (broken k ks m) = omega (arith, count-node k (row_of shown ks (err (message m) nil)), count-row shown ks (err (message m) nil))

-- SYMBOLS TAKEN --------------------------------------------------------------------------------------------------------

-- From xs to ys as many symbols are taken as f has leaves.
abbrev pub Consumed : Forest → List ℕ → List ℕ → Type 0
Consumed f xs ys = drop (count f) xs ≡ ys

in_turn : (n m k : ℕ) (xs ys zs : List ℕ) → k ≡ n + m → drop n xs ≡ ys → drop m ys ≡ zs → drop k xs ≡ zs
in_turn n m k xs ys zs e a b = rw e (sym (drop-drop m n xs) ∙ rw a b)

then-consumed : (f g : Forest) (xs ys zs : List ℕ) → Consumed f xs ys → Consumed g ys zs → Consumed (f then g) xs zs
then-consumed f g xs ys zs = in_turn (count f) (count g) (count (f then g)) xs ys zs (count-then f g)

wrap-consumed : (k : ℕ) (f g : Forest) (xs ys zs : List ℕ) → Consumed f xs ys → Consumed g ys zs → Consumed (wrap k f g nil) xs zs
wrap-consumed k f g xs ys zs = in_turn (count f) (count g) (count (wrap k f g nil)) xs ys zs (count-wrap k f g)

module _ (G : Grammar) where
  mutual
    unfolding leaves

    pub consumed : {p : Part G.Rule} {f : Forest} {xs ys : List ℕ} → Derives G p f xs ys → Consumed f xs ys
    consumed (d_tok h e) = rw e refl
    consumed (d_pair e) = rw e refl
    consumed (d_look h e) = rw e refl
    consumed (d_any e) = rw e refl
    consumed d_any_end = refl
    consumed (d_longest {c = c} {ys = ys} b w x e) = rw (e, x, count-shape G.shown c) (drop_append (kinds_of c) ys)
    consumed (d_no_form b) = refl
    consumed (d_seq {f = f} {g = g} {xs = xs} {ys = ys} {zs = zs} a b e) = rw e (then-consumed f g xs ys zs (consumed a) (consumed b))
    consumed (d_left a) = consumed a
    consumed (d_right a m) = consumed a
    consumed (d_some a) = consumed a
    consumed (d_none m) = refl
    consumed (d_many a) = consumed-many a
    consumed (d_until {k = k} {f = f} {xs = xs} {ys = ys} a e) = rw e (then-consumed f (leaf (G.shown k) nil) xs (k ∷ ys) ys (consumed a) refl)
    consumed (d_at_once e) = rw e refl
    consumed (d_inside {k = k} {f = f} a) = rw (count-node k f) (consumed a)
    consumed (d_alone a m) = consumed a
    consumed (d_with {k = k} {f = f} {g = g} {xs = xs} {ys = ys} {zs = zs} a b) = wrap-consumed k f g xs ys zs (consumed a) (consumed b)
    consumed (d_leaning a) = consumed-leaning a
    consumed (d_before a n) = consumed a
    consumed (d_opens a) = consumed a
    consumed (d_rule a) = consumed a

    consumed-many : {p : Part G.Rule} {f : Forest} {xs ys : List ℕ} → Many G p f xs ys → Consumed f xs ys
    consumed-many m_nil = refl
    consumed-many (m_cons {f = f} {g = g} {xs = xs} {ys = ys} {zs = zs} a b e) = rw e (then-consumed f g xs ys zs (consumed a) (consumed-many b))

    consumed-leaning : {k : ℕ} {p q : Part G.Rule} {f : Forest} {xs ys : List ℕ} → Leaning G k p q f xs ys → Consumed f xs ys
    consumed-leaning (l_one a) = consumed a
    consumed-leaning (l_more {k = k} {f = f} {g = g} {xs = xs} {ys = ys} {zs = zs} a b) = wrap-consumed k f g xs ys zs (consumed-leaning a) (consumed b)
