-- Proper forests, those whose events spell their tree. A node that is begun after its first child makes that child's own Start
-- point to it; so what stands before it has to be one tree that has a Start of its own, a node. Assumes nothing.
use Prim.Native.Nat.{ℕ}
use Rattle.predictive.specs.Forest.{Forest, nil, leaf, err, node, wrap, ◌then◌}

-- one tree, which is a node
pub data Whole : Forest → Type 0 where
  whole-node : {k : ℕ} {i : Forest} → Whole (node k i nil)
  whole-wrap : {k : ℕ} {a b : Forest} → Whole (wrap k a b nil)

-- every node that was begun after its first child was begun after a whole tree
abbrev pub Proper : Forest → Type 0
Proper nil = Unit {0}
Proper (leaf k f) = Proper f
Proper (err m f) = Proper f
Proper (node k i f) = Proper i × Proper f
Proper (wrap k a b f) = Whole a × Proper a × Proper b × Proper f

pub proper-then : (f g : Forest) → Proper f → Proper g → Proper (f then g)
proper-then nil g p q = q
proper-then (leaf k f) g p q = proper-then f g p q
proper-then (err m f) g p q = proper-then f g p q
proper-then (node k i f) g p q = (p.0, proper-then f g p.1 q)
proper-then (wrap k a b f) g p q = (p.0, p.1, p.2, proper-then f g p.3 q)
