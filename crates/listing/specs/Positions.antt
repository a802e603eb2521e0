-- Where a listing stands among the events of an answer, and the lines of the events from there on. Assumes nothing.
use Rattle.std.specs.Prelude.{ℕ, suc, Bool, cond, List, [], ◌∷◌, drop, eqb}
use Rattle.aadl.specs.Encoding.{class_in}
use Rattle.parser.specs.Counters.{Place}
use Rattle.parser.specs.Input.{Input, skip, after_one}
use Rattle.positions.specs.declared.Spot.{Spot}
use Rattle.listing.specs.declared.Position.{Position}
use Rattle.listing_lines.specs.Lines.{line_of}
use Rattle.positions.specs.Spots.{first, spot_after}

-- A token's place, and the spot of its byte, from another spot on.
abbrev pub position_at : Input → Place → Spot → Position
position_at inp p s = record { at = p.at; byte = p.byte; spot = spot_after inp.text s p.byte }

-- Before the first event no token is taken.
unfoldable pub begin : Input → Position
begin inp = position_at inp (skip inp.text 0 0 inp.words) first

-- A Token's first word takes the token where the position stands.
abbrev pub is_token : (word : ℕ) → Bool
is_token w = eqb (class_in w) 1

abbrev pub behind_token : Input → Position → Place
behind_token inp c = after_one inp.text c.at c.byte (drop c.at inp.words)

unfoldable pub step : Input → (word : ℕ) → Position → Position
step inp w c = cond (is_token w) (position_at inp (behind_token inp c) c.spot) c

-- The lines of events by their first words, from a position on; the first has a number.
unfoldable pub lines_from : Input → (number : ℕ) → (words : List ℕ) → Position → List (List ℕ)
lines_from inp n [] c = []
lines_from inp n (w ∷ ws) c = line_of n w c.spot.line c.spot.column ∷ lines_from inp (suc n) ws (step inp w c)
