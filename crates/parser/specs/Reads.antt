-- What the parser's functions and the readers do to counters and event words. A reader reads a part of the section grammar. Their contracts
-- (Parsers) say it of parsers. Assumes nothing.
use Rattle.std.specs.Prelude.{ℕ, ◌-◌, ◌<◌, ◌≡◌, Bool, false, cond, List, length, eqb, Option, Some, None}
use Rattle.predictive.specs.Grammar.{Head, at, Part}
use Rattle.predictive.specs.Reader.{Result, miss, done, read, first}
use Rattle.predictive.specs.Events.{Event, behind_start, events_of, left_over}
use Rattle.aadl.specs.Section.{Rule, grammar}
use Rattle.parser.specs.declared.Counters.{Counters}
use Rattle.parser.specs.Counters.{Started, Completed, Operand}
use Rattle.parser.specs.declared.Marker.{Marker}
use Rattle.parser.specs.declared.CompletedMarker.{CompletedMarker}
use Rattle.parser.specs.Input.{Input, rest}
use Rattle.parser.specs.State.{State, state, complete, emit}

-- One of the heads stands; none does once the parser stopped.
unfoldable pub stands : Input → List Head → Counters → Bool
unfolding rest
stands inp hs p = cond (eqb p.stop 0) (at hs (rest inp p)) false

-- The heads that a part begins with.
abbrev pub heads_of : Part Rule → List Head
heads_of P = first grammar P

-- r and c are what the step f makes of p and b.
pub record Ran (f : State → State) (p : Counters) (b : List ℕ) (r : Counters) (c : List ℕ) : Type 0 where
  pub ran : state r c ≡ f (state p b)

-- The parser r and the words c after the events es, from p and b. What a stopped reader has left in the event words is free, but for
-- their number: the call that lent them clears them.
pub record Emitted (inp : Input) (es : List Event) (p : Counters) (b : List ℕ) (r : Counters) (c : List ℕ) : Type 0 where
  pub parser : r ≡ (emit inp es (state p b)).parser
  pub words : r.stop ≡ 0 → c ≡ (emit inp es (state p b)).words
  pub long : length c ≡ length b

-- The same after what o gave: its events are pushed, and the parser stands at what it left.
pub record Became (inp : Input) (o : Result) (p : Counters) (b : List ℕ) (r : Counters) (c : List ℕ) : Type 0 where
  pub emitted : Emitted inp (events_of o) p b r c
  pub ends : p.stop ≡ 0 → r.stop ≡ 0 → rest inp r ≡ left_over o

-- The reading of the part P of what remains, with d openers left. A loop makes at most a turn for each symbol, and one more: the
-- bound is any number above what remains.
abbrev pub reading_at : Input → (bound d : ℕ) → Part Rule → Counters → Result
reading_at inp n d P p = read grammar n d P (rest inp p)

-- The contract of a reader of the part P, from p and b to r and c.
pub record Read (inp : Input) (d : ℕ) (P : Part Rule) (p : Counters) (b : List ℕ) (r : Counters) (c : List ℕ) : Type 0 where
  pub did : (n : ℕ) → length (rest inp p) < n → Became inp (reading_at inp n d P p) p b r c

-- MARKERS --------------------------------------------------------------------------------------------------------------

-- The step f pushed a Start, and its marker is where that stands.
pub record Starts (p : Counters) (b : List ℕ) (s : Started) (c : List ℕ) (f : State → State) : Type 0 where
  pub ran : state s.p c ≡ f (state p b)
  pub mark : s.m.0 ≡ p.used

-- The node of the marker m was completed as of kind k; its completed marker is the same place.
pub record Completes (m : Marker) (k : ℕ) (p : Counters) (b : List ℕ) (r : Completed) (c : List ℕ) : Type 0 where
  pub ran : state r.p c ≡ complete m.0 k (state p b)
  pub mark : r.m.0 ≡ m.0

-- The contract of a reader of a node: its Start is the first event, and where that stands is its completed marker.
pub record ReadNode (inp : Input) (d : ℕ) (P : Part Rule) (p : Counters) (b : List ℕ) (r : Completed) (c : List ℕ) : Type 0 where
  pub reads : Read inp d P p b r.p c
  pub mark : r.m.0 ≡ p.used

-- The completed marker of what was read, where as many event words are used.
unfoldable pub marked : (used : ℕ) → Result → Option CompletedMarker
marked used (miss m ys) = None
marked used (done f ys) = Some (record { 0 = used - behind_start f })

-- The contract of a reader of an operand, a product or a sum: its completed marker too. What marker a stopped reader hands back is
-- free.
pub record ReadOperand (inp : Input) (d : ℕ) (P : Part Rule) (p : Counters) (b : List ℕ) (o : Operand) (c : List ℕ) : Type 0 where
  pub reads : Read inp d P p b o.p c
  pub mark : (n : ℕ) → length (rest inp p) < n → p.stop ≡ 0 → o.p.stop ≡ 0 → o.lhs ≡ marked o.p.used (reading_at inp n d P p)
