-- "Header, then number, class letter S T F E, kind, last, line, column, parted by commas, no quoting, LF after each line."
-- Assumes nothing.
use Rattle.std.specs.Prelude.{ℕ, zero, suc, ◌+◌, ◌/◌, ◌%◌, cond, List, [], ◌∷◌, ◌++◌, take, drop, ltb, eqb}
use Rattle.predictive.specs.Grammar.{has}
use Rattle.predictive.specs.Events.{Event, taken}
use Rattle.aadl.specs.declared.Answer.{Answer}
use Rattle.aadl.specs.Limits.{Limits}
use Rattle.aadl.specs.Words.{bytes}
use Rattle.aadl.specs.Utf8.{scalars}
use Rattle.aadl.specs.Symbols.{symbols, start_of}
use Rattle.aadl.specs.Encoding.{fields, words_for}
use Rattle.aadl.specs.Reading.{events}
use Rattle.aadl.specs.Answers.{section_answer}

-- A number in decimal digits.
abbrev pub digits : (steps : ℕ) → ℕ → List ℕ
digits zero n = (48 + n % 10) ∷ []
digits (suc s) n =
    let more = digits s (n / 10) ++ ((48 + n % 10) ∷ []) in
    cond (ltb n 10) ((48 + n) ∷ []) more

abbrev pub decimal : ℕ → List ℕ
decimal n = digits n n

-- "Line and column, from 1, ..; LF ends a line": the line of the place behind the bytes bs, from a line on.
abbrev pub line_after : ℕ → List ℕ → ℕ
line_after l [] = l
line_after l (b ∷ bs) = line_after (cond (eqb b 10) (suc l) l) bs

-- The bytes since the last LF.
abbrev pub since_lf : List ℕ → List ℕ
since_lf [] = []
since_lf (b ∷ bs) = cond (has (b ∷ bs) 10) (since_lf bs) (b ∷ bs)

-- 02, Two: "A column is from now on 1 plus the Unicode scalar values since the last LF." Of the place behind the bytes bs.
unfoldable pub column : List ℕ → ℕ
column bs = 1 + scalars (since_lf bs)

-- fields parted by commas, and LF
abbrev pub row : List (List ℕ) → List ℕ
row [] = 10 ∷ []
row (f ∷ []) = f ++ (10 ∷ [])
row (f ∷ g ∷ fs) = f ++ (44 ∷ row (g ∷ fs))

abbrev pub letter : Event → List ℕ
letter e = take 1 (drop (fields e).0 (bytes "STFE"))

-- An event's line: its number, and the place where the next untaken token starts (a Token's own), or the text's end.
unfoldable pub event_line : (text : List ℕ) → (number taken : ℕ) → Event → List ℕ
event_line text n t e =
    let i = start_of text t in
    row (decimal n ∷ letter e ∷ decimal (fields e).1 ∷ decimal (fields e).2 ∷ decimal (line_after 1 (take i text)) ∷ decimal (column (take i text)) ∷ [])

-- The lines of events, of which the first has a number and comes after some taken tokens.
unfoldable pub event_lines : (text : List ℕ) → (number taken : ℕ) → List Event → List ℕ
event_lines text n t [] = []
event_lines text n t (e ∷ es) = event_line text n t e ++ event_lines text (suc n) (t + taken (e ∷ [])) es

-- "The program lends 16,384 token words and words for 8,192 events."
abbrev pub lent_tokens : ℕ
lent_tokens = 16384

abbrev pub lent_events : ℕ
lent_events = words_for 8192

abbrev pub listing_answer : Limits → List ℕ → Answer
listing_answer limits text = section_answer limits text lent_tokens lent_events

-- "A refusal prints only `refused,` number`,` place."
unfoldable pub listing : Limits → List ℕ → List ℕ
listing limits text =
    let a = listing_answer limits text in
    let lines = bytes "event,class,kind,last,line,column\n" ++ event_lines text 0 0 (events limits (symbols text)) in
    cond (eqb a.number 0) lines (row (bytes "refused" ∷ decimal a.number ∷ decimal a.place ∷ []))
