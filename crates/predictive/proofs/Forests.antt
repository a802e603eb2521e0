-- Laws of forests: side by side they are a monoid, and their leaves, which a tree keeps, are the lists of leaves one after another.
-- Each goes down the first forest. Assumes nothing.
use Prim.Native.Nat.{ℕ}
use mathlib.Core.Path.{◌≡◌, refl, sym, ap, ap₂, ◌∙◌}
use mathlib.Core.List.{List, ◌∷◌, ◌++◌, append_assoc}
use Rattle.predictive.specs.Forest.{Forest, nil, leaf, err, node, wrap, ◌then◌, tree, leaves}

pub then-nil : (f : Forest) → f then nil ≡ f
then-nil nil = refl
then-nil (leaf k f) = rw (then-nil f)
then-nil (err m f) = rw (then-nil f)
then-nil (node k i f) = rw (then-nil f)
then-nil (wrap k a b f) = rw (then-nil f)

pub then-assoc : (f g h : Forest) → (f then g) then h ≡ f then (g then h)
then-assoc nil g h = refl
then-assoc (leaf k f) g h = rw (then-assoc f g h)
then-assoc (err m f) g h = rw (then-assoc f g h)
then-assoc (node k i f) g h = rw (then-assoc f g h)
then-assoc (wrap k a b f) g h = rw (then-assoc f g h)

pub leaves-then : (f g : Forest) → leaves (f then g) ≡ leaves f ++ leaves g
unfolding leaves
leaves-then nil g = refl
leaves-then (leaf k f) g = ap (λ (l : List ℕ). k ∷ l) (leaves-then f g)
leaves-then (err m f) g = leaves-then f g
leaves-then (node k i f) g = rw (leaves-then f g) (sym (append_assoc (leaves i) (leaves f) (leaves g)))
leaves-then (wrap k a b f) g = rw (leaves-then f g) (sym (append_assoc (leaves a ++ leaves b) (leaves f) (leaves g)))

-- A tree has the leaves of its forest.
pub leaves-tree : (f : Forest) → leaves (tree f) ≡ leaves f
unfolding leaves tree
leaves-tree nil = refl
leaves-tree (leaf k f) = ap (λ (l : List ℕ). k ∷ l) (leaves-tree f)
leaves-tree (err m f) = leaves-tree f
leaves-tree (node k i f) = ap₂ (λ (l r : List ℕ). l ++ r) (leaves-tree i) (leaves-tree f)
leaves-tree (wrap k a b f) =
    ap₂ (λ (l r : List ℕ). l ++ r)
    (leaves-then (tree a) (tree b) ∙ ap₂ (λ (l r : List ℕ). l ++ r) (leaves-tree a) (leaves-tree b))
    (leaves-tree f)
