-- Forests: the one notion of tree, for what is derived, for what is read, and for what events spell. Assumes nothing.
use Rattle.std.specs.Prelude.{ℕ, List, [], ◌∷◌, ◌++◌}

-- What a reading found amiss: a message of the grammar; or a refusal of the calls, by its number, where they stop.
pub data Fault : Type 0 where
  message : ℕ → Fault
  refusal : (number : ℕ) → Fault

-- A list of trees: the first one, and the trees after it.
pub data Forest : Type 0 where
  nil : Forest
  leaf : (kind : ℕ) → Forest → Forest
  err : Fault → Forest → Forest
  node : (kind : ℕ) → (inside : Forest) → Forest → Forest
  -- a node over a and b that was begun after a, its first child, was complete
  wrap : (kind : ℕ) → (a b : Forest) → Forest → Forest

infixr 65 ◌then◌
abbrev pub ◌then◌ : Forest → Forest → Forest
nil then g = g
(leaf k f) then g = leaf k (f then g)
(err m f) then g = err m (f then g)
(node k i f) then g = node k i (f then g)
(wrap k a b f) then g = wrap k a b (f then g)

-- The tree itself: kinds and order, without messages, and with no trace of when a node was begun.
unfoldable pub tree : Forest → Forest
tree nil = nil
tree (leaf k f) = leaf k (tree f)
tree (err m f) = tree f
tree (node k i f) = node k (tree i) (tree f)
tree (wrap k a b f) = node k (tree a then tree b) (tree f)

-- The kinds of the leaves, in order; an empty node has none.
unfoldable pub leaves : Forest → List ℕ
leaves nil = []
leaves (leaf k f) = k ∷ leaves f
leaves (err m f) = leaves f
leaves (node k i f) = leaves i ++ leaves f
leaves (wrap k a b f) = (leaves a ++ leaves b) ++ leaves f
