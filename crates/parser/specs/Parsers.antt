-- The contracts of the parser's functions and of the readers: what State and Reads say of counters and event words, said of parsers. A reader's
-- contract cites the part of the section grammar that it reads. Assumes nothing.
use Rattle.std.specs.Prelude.{ℕ, ◌≡◌, Bool, List, drop, Option}
use Rattle.std.specs.Borrow.{Bor, MutBor}
use Rattle.predictive.specs.Grammar.{Head, Part}
use Rattle.aadl.specs.Section.{Rule}
use Rattle.parser.specs.declared.Tokens.{Tokens}
use Rattle.parser.specs.declared.Parser.{Parser}
use Rattle.parser.specs.declared.Marker.{Marker}
use Rattle.parser.specs.declared.CompletedMarker.{CompletedMarker}
use Rattle.parser.specs.declared.Counters.{Counters}
use Rattle.parser.specs.Counters.{Place}
use Rattle.parser.specs.Input.{Input, input, skip, after_one}
use Rattle.parser.specs.State.{State}
use Rattle.parser.specs.Reads.{stands, Ran, Starts, Completes, Read, ReadNode, ReadOperand}

-- TOKENS ---------------------------------------------------------------------------------------------------------------

-- what tokens go over
abbrev pub source : Tokens → Input
source t = input t.text.now t.words.now

-- where they stand, as a parser that has counted nothing
abbrev pub cursor : Tokens → Counters
cursor t = record { at = t.at; byte = t.byte; taken = 0; used = 0; left = 0; stop = 0 }

abbrev pub moved_to : Place → Tokens → Tokens
moved_to s t = record { text = t.text; words = t.words; at = s.at; byte = s.byte }

-- the first place from theirs on whose token is no trivia
abbrev pub skipped : Tokens → Place
skipped t = skip t.text.now t.at t.byte (drop t.at t.words.now)

-- the place of the token after the one where they stand
abbrev pub next_place : Tokens → Place
next_place t = after_one t.text.now t.at t.byte (drop t.at t.words.now)

-- at the first token of a text that is no trivia
abbrev pub first_of : (text words : Bor (List ℕ)) → Tokens
first_of text words =
    let s = skip text.now 0 0 words.now in
    record { text = text; words = words; at = s.at; byte = s.byte }

-- PARSERS --------------------------------------------------------------------------------------------------------------

abbrev pub counters : Parser → Counters
counters p = record { at = p.tokens.at; byte = p.tokens.byte; taken = p.taken; used = p.used; left = p.left; stop = p.stop }

-- the same text, token words and event words are lent to both
pub record Same (p r : Parser) : Type 0 where
  pub text : r.tokens.text ≡ p.tokens.text
  pub words : r.tokens.words ≡ p.tokens.words
  pub events : r.events.ghost_name ≡ p.events.ghost_name

-- a parser that begins at a text's first token that is no trivia
pub record Began (text words : Bor (List ℕ)) (events : MutBor (List ℕ)) (left : ℕ) (p : Parser) : Type 0 where
  pub tokens : p.tokens ≡ first_of text words
  pub counts : counters p ≡ record { at = p.tokens.at; byte = p.tokens.byte; taken = 0; used = 0; left = left; stop = 0 }
  pub lent : p.events.ghost_name ≡ events.ghost_name
  pub holds : p.events.now ≡ events.now

-- One of the heads stands where the parser does; none does once it stopped.
abbrev pub stand : List Head → Parser → Bool
stand hs p = stands (source p.tokens) hs (counters p)

-- From p to r is a step of the counters and the event words.
pub record Steps (f : Input → State → State) (p r : Parser) : Type 0 where
  pub did : Ran (f (source p.tokens)) (counters p) p.events.now (counters r) r.events.now
  pub same : Same p r

-- A node is begun by the step f, and m is its marker.
pub record Opens (f : State → State) (p : Parser) (m : Marker) (r : Parser) : Type 0 where
  pub did : Starts (counters p) p.events.now (record { p = counters r; m = m }) r.events.now f
  pub same : Same p r

-- The node of the marker m is completed as of kind k.
pub record Closes (m : Marker) (k : ℕ) (p : Parser) (c : CompletedMarker) (r : Parser) : Type 0 where
  pub did : Completes m k (counters p) p.events.now (record { p = counters r; m = c }) r.events.now
  pub same : Same p r

-- READERS --------------------------------------------------------------------------------------------------------------

-- From p to r the part P is read with d openers left; ..
pub record ReadsWithin (d : ℕ) (P : Part Rule) (p r : Parser) : Type 0 where
  pub did : Read (source p.tokens) d P (counters p) p.events.now (counters r) r.events.now
  pub same : Same p r

-- .. or with any number of them, where no opener is in it.
abbrev pub ReadsPart : Part Rule → (p r : Parser) → Type 0
ReadsPart P p r = (d : ℕ) → ReadsWithin d P p r

-- the same of a node, ..
pub record ReadsNodeWithin (d : ℕ) (P : Part Rule) (p : Parser) (m : CompletedMarker) (r : Parser) : Type 0 where
  pub did : ReadNode (source p.tokens) d P (counters p) p.events.now (record { p = counters r; m = m }) r.events.now
  pub same : Same p r

abbrev pub ReadsNode : Part Rule → Parser → CompletedMarker → Parser → Type 0
ReadsNode P p m r = (d : ℕ) → ReadsNodeWithin d P p m r

-- .. and of an operand, a product or a sum
pub record ReadsOperandWithin (d : ℕ) (P : Part Rule) (p : Parser) (lhs : Option CompletedMarker) (r : Parser) : Type 0 where
  pub did : ReadOperand (source p.tokens) d P (counters p) p.events.now (record { p = counters r; lhs = lhs }) r.events.now
  pub same : Same p r
