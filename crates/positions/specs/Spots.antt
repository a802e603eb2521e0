-- "Line and column, from 1, ..; LF ends a line." Places of a text with their lines and columns, of whatever bytes. Assumes nothing.
use Rattle.std.specs.Prelude.{ℕ, suc, ◌-◌, min, max, cond, List, [], ◌∷◌, length, take, drop, eqb}
use Rattle.aadl.specs.Utf8.{is_continuation}
use Rattle.aadl.specs.Listing.{line_after}
use Rattle.positions.specs.declared.Spot.{Spot}

-- The column behind a byte, from the one before it: LF leads back to 1, a byte that continues a UTF-8 sequence counts nothing, any other one.
abbrev pub column_behind : (column byte : ℕ) → ℕ
column_behind c b = cond (eqb b 10) 1 (cond (is_continuation b) c (suc c))

-- The same behind many. Behind well-formed bytes it is the listing's `column` (ColumnLaws, `column-counted`).
abbrev pub column_after : ℕ → List ℕ → ℕ
column_after c [] = c
column_after c (b ∷ bs) = column_after (column_behind c b) bs

-- Lines and columns are counted in 32 bits: past those a count stays at the highest number.
abbrev pub capped : ℕ → ℕ
capped n = min n 4294967295

-- "from 1"
unfoldable pub first : Spot
first = record { place = 0; line = 1; column = 1 }

-- The spot at a later place, or at the text's end if that comes before: line and column behind the bytes between.
abbrev pub between : (text : List ℕ) → (from to : ℕ) → List ℕ
between text i j = take (j - i) (drop i text)

unfoldable pub spot_after : List ℕ → Spot → (place : ℕ) → Spot
spot_after text s p =
    let j = min p (length text) in
    let bs = between text s.place j in
    record { place = max s.place j; line = capped (line_after s.line bs); column = capped (column_after s.column bs) }
