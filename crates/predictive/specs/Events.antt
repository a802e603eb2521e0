-- The events of a forest, in the order in which they are pushed. Assumes nothing.
use Rattle.std.specs.Prelude.{ℕ, suc, Bool, true, false, ◌||◌, List, [], ◌∷◌, ◌++◌, length}
use Rattle.predictive.specs.Forest.{Forest, nil, leaf, err, node, wrap, Fault, message, refusal}
use Rattle.predictive.specs.Reader.{Result, miss, done}

-- An event. The second number of a Start is its forward parent: how many events further on the Start stands in whose node it
-- opens, or 0 for none.
pub data Event : Type 0 where
  start : (kind parent : ℕ) → Event
  token : (kind : ℕ) → Event
  finish : Event
  error : Fault → Event

unfoldable mutual
  -- The events of f, whose first tree's own Start has the forward parent up. A node that was begun after its first child pushes
  -- its Start there, and the child's own Start points to it.
  pub events : Forest → (up : ℕ) → List Event
  events nil up = []
  events (leaf k f) up = token k ∷ events f 0
  events (err m f) up = error m ∷ events f 0
  events (node k i f) up = (start k up ∷ events i 0) ++ (finish ∷ events f 0)
  events (wrap k a b f) up = (events a (behind_start a) ++ (start k up ∷ events b 0)) ++ (finish ∷ events f 0)

  -- how far the own Start of a's first tree lies before the end of that tree's events
  pub behind_start : Forest → ℕ
  behind_start nil = 0
  behind_start (leaf k f) = 0
  behind_start (err m f) = 0
  behind_start (node k i f) = suc (suc (length (events i 0)))
  behind_start (wrap k a b f) = suc (suc (length (events b 0)))

-- The events of a reading, and the symbols that it leaves.
unfoldable pub events_of : Result → List Event
unfolding events
events_of (miss m ys) = error m ∷ []
events_of (done f ys) = events f 0

unfoldable pub left_over : Result → List ℕ
left_over (miss m ys) = ys
left_over (done f ys) = ys

-- How many tokens the events take: one for each Token.
unfoldable pub taken : List Event → ℕ
taken [] = 0
taken (start k up ∷ es) = taken es
taken (token k ∷ es) = suc (taken es)
taken (finish ∷ es) = taken es
taken (error m ∷ es) = taken es

-- An Error with a fault that passes the test is among the events.
unfoldable pub erring : (Fault → Bool) → List Event → Bool
erring q [] = false
erring q (start k up ∷ es) = erring q es
erring q (token k ∷ es) = erring q es
erring q (finish ∷ es) = erring q es
erring q (error m ∷ es) = q m || erring q es

abbrev pub any_fault : Fault → Bool
any_fault m = true

-- a refusal, at which the calls stop
abbrev pub stops : Fault → Bool
stops (message m) = false
stops (refusal n) = true
