-- Where a section's associations start, by its events. Assumes nothing.
use Rattle.std.specs.Prelude.{ℕ, suc, cond, List, [], ◌∷◌, eqb}
use Rattle.predictive.specs.Events.{Event, start, token, finish, error}
use Rattle.aadl.specs.Kinds.{PROPERTY_ASSOCIATION, #◌}

-- The numbers of the tokens at which the Starts of associations stand; i tokens are taken before the events.
unfoldable pub starts_in : (i : ℕ) → List Event → List ℕ
starts_in i [] = []
starts_in i (start k up ∷ es) =
    let rest = starts_in i es in
    cond (eqb k (# PROPERTY_ASSOCIATION)) (i ∷ rest) rest
starts_in i (token k ∷ es) = starts_in (suc i) es
starts_in i (finish ∷ es) = starts_in i es
starts_in i (error m ∷ es) = starts_in i es
