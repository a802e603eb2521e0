-- What is left of a listing, and the pieces in which it is given: whole lines, as many as a buffer takes. Where a piece ends is ours to say, what
-- the pieces are end to end is not. Assumes nothing.
use Rattle.std.specs.Prelude.{ℕ, ◌+◌, ◌-◌, ◌≤◌, ◌≡◌, true, false, cond, List, [], ◌∷◌, ◌++◌, length, take, drop, leb}
use Rattle.aadl.specs.declared.Answer.{Answer}
use Rattle.aadl.specs.declared.Limits.{Limits}
use Rattle.aadl.specs.Encoding.{words_for, first_words}
use Rattle.aadl.specs.Listing.{listing_answer, listing}
use Rattle.aadl.specs.Promises.{SectionCalled}
use Rattle.aadl.specs.Slices.{Slice, MutSlice}
use Rattle.aadl.specs.Slices as Slices
use Rattle.parser.specs.Input.{input}
use Rattle.writing.specs.declared.Writer.{Writer}
use Rattle.writing.specs.Written.{Wrote}
use Rattle.listing.specs.declared.Listing.{Listing}
use Rattle.listing_lines.specs.Lines.{line_room, first_line}
use Rattle.listing.specs.Positions.{begin, lines_from}

-- Lines end to end.
abbrev pub joined : List (List ℕ) → List ℕ
joined [] = []
joined (l ∷ ls) = l ++ joined ls

-- The next piece, and the lines behind it: a line is given while there is room for any.
unfoldable pub piece : (room : ℕ) → List (List ℕ) → List ℕ
piece room [] = []
piece room (l ∷ ls) = cond (leb line_room room) (l ++ piece (room - length l) ls) []

unfoldable pub behind : (room : ℕ) → List (List ℕ) → List (List ℕ)
behind room [] = []
behind room (l ∷ ls) = cond (leb line_room room) (behind (room - length l) ls) (l ∷ ls)

-- The lines that a listing has yet to give, of the bytes and words that are lent.
unfoldable pub left : (text tokens events : List ℕ) → Listing → List (List ℕ)
left text ts es l =
    let a = l.answer in
    let inp = input (take l.bytes text) (take a.tokens ts) in
    let lines = lines_from inp l.event (drop l.event (first_words (take (words_for a.events) es))) l.position in
    cond l.begun lines (first_line a ∷ lines)

-- A listing before its first line: of the first bytes, as many as were read, with the answer of the section call and the token words that it left.
abbrev pub before : (text : List ℕ) → (bytes : ℕ) → (tokens : List ℕ) → Answer → Listing
before text n ts a = record { bytes = n; answer = a; begun = false; event = 0; position = begin (input (take n text) (take a.tokens ts)) }

-- A listing whose first line is given.
abbrev pub given : Listing → Listing
given l = record { bytes = l.bytes; answer = l.answer; begun = true; event = l.event; position = l.position }

-- A piece of some lines is written over a buffer from a place on, with so much room behind it, and all of it has room; it ends at a place, and
-- the other lines are left.
pub record Gave (room from : ℕ) (lines : List (List ℕ)) (old : List ℕ) (end : ℕ) (rest : List (List ℕ)) (new : List ℕ) : Type 0 where
  pub wrote : Wrote old from (piece room lines) new end
  pub whole : from + length (piece room lines) ≤ length old
  pub leaves : rest ≡ behind room lines

-- The lines that are left, end to end, are the listing of every text of which the first bytes, as many as were read, are all that has room.
pub record ListsWithin (limits : Limits) (text : List ℕ) (bytes : ℕ) (tokens events : List ℕ) (l : Listing) : Type 0 where
  pub lists : (t : List ℕ) → take bytes text ≡ take (length text) t → joined (left text tokens events l) ≡ listing limits t

-- Where a listing begins: the section call on the first bytes answered and left what it answers and leaves; the listing stands before its first line,
-- with that answer; and it lists the text.
pub record Begun (limits : Limits) (text : List ℕ) (bytes : ℕ) (tokens events : List ℕ) (l : Listing) (tokens-left events_left : List ℕ) : Type 0 where
  pub called : SectionCalled limits (take bytes text) tokens events l.answer tokens-left events_left
  pub stands : l ≡ before text bytes tokens-left (listing_answer limits (take bytes text))
  pub lists : ListsWithin limits text bytes tokens-left events_left l

-- Lines of a listing are given into lent bytes, from a place on, with so much room: from one listing's on to what the next has left.
module _ (text tokens events : Slice) (out : MutSlice) (room from : ℕ) where
  abbrev pub Gives : (l : Listing) → (end : ℕ) → (next : Listing) → Type 0
  Gives l end next =
      let rest = left (Slices.held text) (Slices.held tokens) (Slices.held events) in
      Gave room from (rest l) (Slices.before out) end (rest next) (Slices.after out)

-- Lines of a listing are given by a writer, from where it stands, with all the room that it has: of these lines to those that are left.
pub record Puts (lines rest : List (List ℕ)) (w after : Writer) : Type 0 where
  pub same : after.out.ghost_name ≡ w.out.ghost_name
  pub gave : Gave (length w.out.now - w.at) w.at lines w.out.now after.at rest after.out.now

-- The lines of events, from where a listing stands; it stays what it is but for the event and its position.
abbrev pub lines_at : (src toks words : List ℕ) → Listing → List (List ℕ)
lines_at src toks words l = lines_from (input src toks) l.event (drop l.event (first_words words)) l.position

pub record GoesOn (l next : Listing) : Type 0 where
  pub stays : next ≡ record { bytes = l.bytes; answer = l.answer; begun = l.begun; event = next.event; position = next.position }
