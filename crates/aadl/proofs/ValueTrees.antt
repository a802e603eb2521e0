-- A tree has the children and the associations of its forest: neither messages nor when a node was begun matter. So what `children` and
-- `associations` say of forests that are no trees, which no derivation is and no events spell, follows from what they say of trees. Forests side
-- by side first, then down the forest. Assumes nothing.
use Prim.Native.Nat.{ℕ, suc, ◌+◌}
use native.Mathlib.Omega.{arith}
use mathlib.Core.Path.{◌≡◌, refl, sym, ap, ◌∙◌}
use mathlib.Core.Bool.{Bool, true, false, cond}
use mathlib.Core.List.{List, ◌∷◌, ◌++◌, append_assoc}
use mathlib.Core.Option.{Option}
use lib.ListN.{length, length-append}
use lib.Dec.{eqb}
use Rattle.predictive.specs.Forest.{Forest, nil, leaf, err, node, wrap, ◌then◌, tree, leaves}
use Rattle.predictive.proofs.Forests.{leaves-tree}
use Rattle.predictive.proofs.Consumed.{count, count-then}
use Rattle.aadl.specs.Kinds.{PROPERTY_ASSOCIATION, #◌}
use Rattle.aadl.specs.Values.{Child, children, nth_tree, Association, association, associations}

count-tree : (f : Forest) → count (tree f) ≡ count f
count-tree f = ap length (leaves-tree f)

count-trees : (f g : Forest) → count (tree f then tree g) ≡ count f + count g
count-trees f g = omega (arith, count-then (tree f) (tree g), count-tree f, count-tree g)

cond_append : {A : Type 0} (b : Bool) (xs ys zs : List A) → cond b xs ys ++ zs ≡ cond b (xs ++ zs) (ys ++ zs)
cond_append true xs ys zs = refl
cond_append false xs ys zs = refl

module _ (number-of-token : ℕ → Option ℕ) where
  abbrev kids : ℕ → Forest → List Child
  kids i f = children number-of-token i f

  abbrev found : ℕ → Forest → List Association
  found i f = associations number-of-token i f

  -- SIDE BY SIDE -------------------------------------------------------------------------------------------------------

  kids-then : (i j : ℕ) (f g : Forest) → j ≡ i + count f → kids i (f then g) ≡ kids i f ++ kids j g
  unfolding children leaves
  kids-then i j nil g e =
      let p : i ≡ j = omega (arith, e) in
      ap (λ (k : ℕ). kids k g) p
  kids-then i j (leaf k f) g e = rw (kids-then (suc i) j f g (omega (arith, e))) refl
  kids-then i j (err m f) g e = kids-then i j f g e
  kids-then i j (node k a f) g e = rw (kids-then (i + count a) j f g (omega (arith, e, length-append (leaves a) (leaves f)))) refl
  kids-then i j (wrap k a b f) g e =
      rw (kids-then (i + count a + count b) j f g (omega (arith, e, length-append (leaves a ++ leaves b) (leaves f), length-append (leaves a) (leaves b)))) refl

  -- what a node gives: itself, if it is an association, or else what is found inside it
  found-beside : (b : Bool) (a : Association) (inside rest more : List Association) →
      cond b (a ∷ (rest ++ more)) (inside ++ (rest ++ more)) ≡ cond b (a ∷ rest) (inside ++ rest) ++ more
  found-beside b a inside rest more =
      ap (λ (l : List Association). cond b (a ∷ (rest ++ more)) l) (sym (append_assoc inside rest more)) ∙ sym (cond_append b (a ∷ rest) (inside ++ rest) more)

  found-then : (i j : ℕ) (f g : Forest) → j ≡ i + count f → found i (f then g) ≡ found i f ++ found j g
  unfolding associations leaves
  found-then i j nil g e =
      let p : i ≡ j = omega (arith, e) in
      ap (λ (k : ℕ). found k g) p
  found-then i j (leaf k f) g e = found-then (suc i) j f g (omega (arith, e))
  found-then i j (err m f) g e = found-then i j f g e
  found-then i j (node k a f) g e =
      let n = i + count a in
      rw (found-then n j f g (omega (arith, e, length-append (leaves a) (leaves f))))
      (found-beside (eqb k (# PROPERTY_ASSOCIATION)) (association i (nth_tree number-of-token 1 (kids i a))) (found i a) (found n f) (found j g))
  found-then i j (wrap k a b f) g e =
      let m = i + count a in
      let n = m + count b in
      rw (found-then n j f g (omega (arith, e, length-append (leaves a ++ leaves b) (leaves f), length-append (leaves a) (leaves b))))
      (found-beside (eqb k (# PROPERTY_ASSOCIATION)) (association i (nth_tree number-of-token 1 (kids i a ++ kids m b))) (found i a ++ found m b) (found n f) (found j g))

  -- THE TREE -----------------------------------------------------------------------------------------------------------

  pub kids-tree : (i : ℕ) (f : Forest) → children number-of-token i (tree f) ≡ children number-of-token i f
  unfolding children leaves tree
  kids-tree i nil = refl
  kids-tree i (leaf k f) = rw (kids-tree (suc i) f) refl
  kids-tree i (err m f) = kids-tree i f
  kids-tree i (node k a f) = rw (leaves-tree a, kids-tree i a, kids-tree (i + count a) f) refl
  kids-tree i (wrap k a b f) =
      let j = i + count a in
      let c : kids i (tree a then tree b) ≡ kids i a ++ kids j b =
      kids-then i j (tree a) (tree b) (omega (arith, count-tree a)) ∙ rw (kids-tree i a, kids-tree j b) refl in
      let p : i + count (tree a then tree b) ≡ j + count b = omega (arith, count-trees a b) in
      rw (c, p, kids-tree (j + count b) f) refl

  pub found-tree : (i : ℕ) (f : Forest) → associations number-of-token i (tree f) ≡ associations number-of-token i f
  unfolding associations leaves tree
  found-tree i nil = refl
  found-tree i (leaf k f) = found-tree (suc i) f
  found-tree i (err m f) = found-tree i f
  found-tree i (node k a f) = rw (leaves-tree a, kids-tree i a, found-tree i a, found-tree (i + count a) f) refl
  found-tree i (wrap k a b f) =
      let j = i + count a in
      let near : j ≡ i + count (tree a) = omega (arith, count-tree a) in
      let c : kids i (tree a then tree b) ≡ kids i a ++ kids j b = kids-then i j (tree a) (tree b) near ∙ rw (kids-tree i a, kids-tree j b) refl in
      let d : found i (tree a then tree b) ≡ found i a ++ found j b = found-then i j (tree a) (tree b) near ∙ rw (found-tree i a, found-tree j b) refl in
      let p : i + count (tree a then tree b) ≡ j + count b = omega (arith, count-trees a b) in
      rw (c, d, p, found-tree (j + count b) f) refl
