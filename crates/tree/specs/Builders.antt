-- What the code keeps of a walk: its numbers in a Builder, its records in the first of the lent words. Assumes nothing.
use Rattle.std.specs.Prelude.{ℕ, suc, ◌+◌, ◌*◌, ◌≤◌, ◌<◌, ◌≡◌, Result, MatchResult, List, ◌++◌, map, length, get_or, drop}
use Rattle.std.proofs.lemmas.List.Edits.{sets}
use Rattle.predictive.specs.Events.{Event}
use Rattle.aadl.specs.Slices.{Slice, held, MutSlice, before, after}
use Rattle.aadl.specs.Limits.{most_events}
use Rattle.aadl.specs.Tokens.{kind_in}
use Rattle.aadl.specs.Encoding.{event_in, first_words, told_by}
use Rattle.aadl.specs.Records.{Record, record_room, words_of_records}
use Rattle.aadl.specs.Calls.{Each}
use Rattle.tree.specs.declared.Builder.{Builder}
use Rattle.tree.specs.Walk.{links, opened, Walk, walk, root}

-- Records over the first words, and then the old contents.
abbrev pub laid : List Record → (old : List ℕ) → List ℕ
laid rs old = words_of_records rs ++ drop (length (words_of_records rs)) old

-- What holds of a walk before event i: the open node and every parent has a record, no node begins behind the tokens taken, and
-- the numbers stay small.
pub record Sound (i : ℕ) (w : Walk) : Type 0 where
  pub innermost_stands : w.innermost < length w.rows
  pub parents_stand : Each (λ (r : Record). r.parent < length w.rows) w.rows
  pub firsts_taken : Each (λ (r : Record). r.first ≤ w.taken) w.rows
  pub few_tokens : w.taken ≤ i
  pub few_rows : length w.rows ≤ suc (i * most_events)

-- A builder before event i, with the words that it fills, where the words old were lent.
pub record Holds (old : List ℕ) (i : ℕ) (w : Walk) (b : Builder) (words : List ℕ) : Type 0 where
  pub counts : b.records ≡ length w.rows
  pub opens : b.innermost ≡ w.innermost
  pub takes : b.taken ≡ w.taken
  pub lays : words ≡ laid w.rows old
  pub fits : length w.rows ≤ record_room (length old)
  pub sound : Sound i w

-- It holds some walk, whatever words were lent.
abbrev pub HoldsSome : (i : ℕ) → Builder → (words : List ℕ) → Type 0
HoldsSome i b words = (old : List ℕ) × ((w : Walk) × Holds old i w b words)

-- There is an event i, one of not too many, and a builder holds a walk before it.
abbrev pub CanTurn : (events records : List ℕ) → (i : ℕ) → Builder → Type 0
CanTurn events records i b = (i < length (first_words events)) × (length (first_words events) ≤ most_events) × HoldsSome i b records

-- A node of the walk v that follows w has no record, and t is its first token's number.
pub record Full (old : List ℕ) (w v : Walk) (t : ℕ) (words : List ℕ) : Type 0 where
  pub takes : t ≡ w.taken
  pub before : length w.rows ≤ record_room (length old)
  pub behind : record_room (length old) < length v.rows
  pub long : length words ≡ length old

-- What an event does to a builder, b behind it, where the walk was w and is v.
abbrev pub Stepped : {T : Type 0} → (old : List ℕ) → (i : ℕ) → (w v : Walk) → Result T ℕ → (b : Builder) → (words : List ℕ) → Type 0
Stepped old i w v r b words = MatchResult r (λ _. Holds old i v b words) (λ t. Full old w v t words)

-- An event does to a builder and the lent words what the step f does to the walk.
abbrev pub StepsBy : {T : Type 0} → (f : ℕ → List Event → Walk → Walk) → (events : Slice) → (records : MutSlice) → (i : ℕ) → (b : Builder) → Result T ℕ → (c : Builder) → Type 0
StepsBy f events records i b r c =
    (old : List ℕ) (w : Walk) → Holds old i w b (before records) → Stepped old (suc i) w (f i (drop i (told_by (held events))) w) r c (after records)

-- The n Starts of the chain that begins with event i can be opened: each has room for a record, and the numbers fit words.
abbrev pub CanOpen : (events records : List ℕ) → (i n : ℕ) → Builder → Type 0
CanOpen events records i n b =
    (n ≡ length (links 0 (told_by events) i)) × ((b.records + n) * 4 ≤ length records) × (b.records + n < 4294967296) × (b.innermost < 4294967296)
    × (b.taken < 4294967296) × (length (first_words events) ≤ most_events)

-- The record words once that chain is opened.
abbrev pub chain_opened : (events : List ℕ) → (i : ℕ) → Builder → (old : List ℕ) → List ℕ
chain_opened events i b old =
    sets old (b.records * 4) (words_of_records (opened b.innermost b.records b.taken (links 0 (told_by events) i)))

-- The walk over the events that first words tell.
abbrev pub walked : (first_words : List ℕ) → Walk
walked ws = walk 0 (map event_in ws) (root (kind_in (get_or ws 0 0)))

-- n is how many records the nodes of the events have that the first words ws tell, and they are laid into the words old.
pub record Whole (ws old : List ℕ) (n : ℕ) (words : List ℕ) : Type 0 where
  pub counts : n ≡ length (walked ws).rows
  pub fits : n ≤ record_room (length old)
  pub lays : words ≡ laid (walked ws).rows old

-- A record is missing among the words old, and t is the number of the first token below its node.
pub record Lacks (ws old : List ℕ) (t : ℕ) : Type 0 where
  pub lacks : record_room (length old) < length (walked ws).rows
  pub names : t ≡ get_or (map (λ (r : Record). r.first) (walked ws).rows) (record_room (length old)) 0

-- What is built of the events that the first words ws tell, the words old being lent.
pub record Built (ws old : List ℕ) (r : Result ℕ ℕ) (words : List ℕ) : Type 0 where
  pub built : MatchResult r (λ n. Whole ws old n words) (λ t. Lacks ws old t)
  pub long : length words ≡ length old
