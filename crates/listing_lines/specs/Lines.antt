-- The listing's lines. Assumes nothing.
use Rattle.std.specs.Prelude.{ℕ, cond, List, [], ◌∷◌, eqb}
use Rattle.aadl.specs.declared.Answer.{Answer}
use Rattle.aadl.specs.Words.{bytes}
use Rattle.aadl.specs.Encoding.{fields, event_in}
use Rattle.aadl.specs.Listing.{decimal, row, letter}

-- "Header, then .."
unfoldable pub header : List ℕ
header = bytes "event,class,kind,last,line,column\n"

-- ".. number, class letter S T F E, kind, last, line, column, parted by commas, no quoting, LF after each line." The word may be any:
-- it shows the event that it stands for. So a class above 3 shows as an Error, a Token's last as 1, and a kind or a last
-- that its class leaves 0 as 0.
unfoldable pub line_of : (number word line column : ℕ) → List ℕ
line_of n w l c =
    let e = event_in w in
    row (decimal n ∷ letter e ∷ decimal (fields e).1 ∷ decimal (fields e).2 ∷ decimal l ∷ decimal c ∷ [])

-- "A refusal prints only `refused,` number`,` place."
unfoldable pub refusal_line : (number place : ℕ) → List ℕ
refusal_line n p = row (bytes "refused" ∷ decimal n ∷ decimal p ∷ [])

-- The first line of an answer's listing.
unfoldable pub first_line : Answer → List ℕ
first_line a = cond (eqb a.number 0) header (refusal_line a.number a.place)

-- The room that is left for a line. None is longer, of numbers that have 32 or 64 bits.
abbrev pub line_room : ℕ
line_room = 80
