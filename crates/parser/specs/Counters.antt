-- What the definitions see of a parser: its counters alone or beside a marker, and where it stands. Assumes nothing.
use Rattle.std.specs.Prelude.{ℕ, Option}
use Rattle.parser.specs.declared.Counters.{Counters}
use Rattle.parser.specs.declared.Marker.{Marker}
use Rattle.parser.specs.declared.CompletedMarker.{CompletedMarker}

-- the number of a token's word, and where the token starts in the text
pub record Place : Type 0 where
  pub at : ℕ
  pub byte : ℕ

-- a parser that has begun a node, one that has completed one, and one behind an operand, which may be missing
pub record Started : Type 0 where
  pub p : Counters
  pub m : Marker

pub record Completed : Type 0 where
  pub p : Counters
  pub m : CompletedMarker

pub record Operand : Type 0 where
  pub p : Counters
  pub lhs : Option CompletedMarker
