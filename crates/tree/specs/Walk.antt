-- How a tree's records are filled in one pass over its events, with no memory but the records: while a node is open, its `below` holds
-- the number of its Start's event. A Start that is the innermost open node's own was used by an earlier one and opens nothing; any other
-- one opens its chain, outermost first. The innermost open node's parent is the next one to close. Assumes nothing.
use Rattle.std.specs.Prelude.{ℕ, zero, suc, ◌+◌, ◌-◌, cond, List, [], ◌∷◌, ◌++◌, length, get_or, set, eqb}
use Rattle.predictive.specs.Events.{Event, start, token, finish, error}
use Rattle.aadl.specs.Records.{Record, of_node}

-- CHAINS ---------------------------------------------------------------------------------------------------------------

-- A Start of a chain: its event's number, and its kind.
pub record Link : Type 0 where
  pub event : ℕ
  pub kind : ℕ

abbrev pub link : (event kind : ℕ) → Link
link i k = record { event = i; kind = k }

-- The chain of Starts that begins n events on, outermost first; the first of the events is number i.
unfoldable pub links : (i : ℕ) → List Event → (n : ℕ) → List Link
links i [] n = []
links i (start k up ∷ es) zero = (elim up [ zero ↦ [] | suc m ↦ links (suc i) es m ]) ++ (link i k ∷ [])
links i (token k ∷ es) zero = []
links i (finish ∷ es) zero = []
links i (error m ∷ es) zero = []
links i (start k up ∷ es) (suc n) = links (suc i) es n
links i (token k ∷ es) (suc n) = links (suc i) es n
links i (finish ∷ es) (suc n) = links (suc i) es n
links i (error m ∷ es) (suc n) = links (suc i) es n

-- The records of the chain's nodes, in the open node p, where the next record is number n and t tokens are taken.
abbrev pub opened : (p n t : ℕ) → List Link → List Record
opened p n t [] = []
opened p n t (l ∷ ls) = of_node l.kind p t l.event ∷ opened n (suc n) t ls

-- THE PASS -------------------------------------------------------------------------------------------------------------

-- The records so far, the number of the innermost open node's, and the tokens taken.
pub record Walk : Type 0 where
  pub rows : List Record
  pub innermost : ℕ
  pub taken : ℕ

abbrev pub walk_at : List Record → (innermost taken : ℕ) → Walk
walk_at rs p t = record { rows = rs; innermost = p; taken = t }

abbrev pub blank : Record
blank = of_node 0 0 0 0

-- the innermost open node's record
abbrev pub innermost_row : Walk → Record
innermost_row w = get_or w.rows w.innermost blank

abbrev pub with_links : List Link → Walk → Walk
with_links ls w = walk_at (w.rows ++ opened w.innermost (length w.rows) w.taken ls) ((length w.rows + length ls) - 1) w.taken

-- The first of the events, a Start, is met: its number is i.
abbrev pub begun : (i : ℕ) → List Event → Walk → Walk
begun i es w = cond (eqb (innermost_row w).below i) w (with_links (links i es 0) w)

abbrev pub counted : Walk → Walk
counted w = walk_at w.rows w.innermost (suc w.taken)

-- The innermost open node's Finish: its record counts the tokens since its first.
abbrev pub closed : Walk → Walk
closed w =
    let r = innermost_row w in
    walk_at (set w.rows w.innermost (of_node r.kind r.parent r.first (w.taken - r.first))) r.parent w.taken

-- The walk after the first of the events, which is number i.
unfoldable pub turn : (i : ℕ) → List Event → Walk → Walk
unfolding links
turn i [] w = w
turn i (start k up ∷ es) w = begun i (start k up ∷ es) w
turn i (token k ∷ es) w = counted w
turn i (finish ∷ es) w = closed w
turn i (error m ∷ es) w = w

-- The walk after all of them.
unfoldable pub walk : (i : ℕ) → List Event → Walk → Walk
unfolding turn
walk i [] w = w
walk i (e ∷ es) w = walk (suc i) es (turn i (e ∷ es) w)

-- Where it begins: the root is open, and its Start is event 0.
abbrev pub root : (kind : ℕ) → Walk
root k = walk_at (of_node k 0 0 0 ∷ []) 0 0
