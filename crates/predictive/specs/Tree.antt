-- The tree that events spell: a Start with a forward parent opens inside the node of the Start it points to, chains outermost
-- first; a Start so used opens nothing again. A Token is a leaf with its kind. A Finish closes the innermost node. Assumes nothing.
use Rattle.std.specs.Prelude.{ℕ, zero, suc, Bool, true, false, ◌||◌, List, [], ◌∷◌, ◌++◌, eqb}
use Rattle.predictive.specs.Forest.{Forest, nil, leaf, node, ◌then◌}
use Rattle.predictive.specs.Events.{Event, start, token, finish, error}

-- What an event does to the tree.
pub data Step : Type 0 where
  opens : ℕ → Step
  adds : ℕ → Step
  closes : Step

-- What the chain of Starts opens that begins n events on: outermost first.
unfoldable pub chain : List Event → ℕ → List Step
chain [] n = []
chain (start k up ∷ es) zero = (elim up [ zero ↦ [] | suc m ↦ chain es m ]) ++ (opens k ∷ [])
chain (token k ∷ es) zero = []
chain (finish ∷ es) zero = []
chain (error m ∷ es) zero = []
chain (start k up ∷ es) (suc n) = chain es n
chain (token k ∷ es) (suc n) = chain es n
chain (finish ∷ es) (suc n) = chain es n
chain (error m ∷ es) (suc n) = chain es n

abbrev pub unused : Bool → List Step → List Step
unused true s = []
unused false s = s

-- The steps of the events, one after another. `used n`: an earlier Start points to the event n further on.
unfoldable pub steps : (used : ℕ → Bool) → List Event → List Step
unfolding chain
steps used [] = []
steps used (start k up ∷ es) = unused (used 0) (chain (start k up ∷ es) 0) ++ steps (λ n. eqb (suc n) up || used (suc n)) es
steps used (token k ∷ es) = adds k ∷ steps (λ n. used (suc n)) es
steps used (finish ∷ es) = closes ∷ steps (λ n. used (suc n)) es
steps used (error m ∷ es) = steps (λ n. used (suc n)) es

-- A node that is open: what stands before it, and its kind.
pub data Open : Type 0 where
  open_node : Forest → ℕ → Open

-- The steps done one after another. g is what the innermost open node holds so far, or the whole where none is open.
unfoldable pub build : (g : Forest) → List Open → List Step → Forest
build g st [] = g
build g st (opens k ∷ ss) = build nil (open_node g k ∷ st) ss
build g st (adds k ∷ ss) = build (g then leaf k nil) st ss
build g [] (closes ∷ ss) = build g [] ss
build g (open_node h k ∷ st) (closes ∷ ss) = build (h then node k g nil) st ss

unfoldable pub spell : List Event → Forest
unfolding steps build
spell es = build nil [] (steps (λ n. false) es)
