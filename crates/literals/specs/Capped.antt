-- What is told of digits and of a literal: their number exactly up to a cap that is above every literal in the range. Assumes nothing.
use Rattle.std.specs.Prelude.{ℕ, min, ◌≡◌, Option as Told, Some, None}
use Rattle.std.proofs.Math.Option.{Option, none, some}
use Rattle.int64.specs.Integers.{most}

abbrev pub capped : Option ℕ → Told ℕ
capped none = None
capped (some n) = Some (min n most)

-- Of a literal that keeps the rules the number, up to the cap; of any other that it does not keep them.
abbrev pub LiteralOf : Option ℕ → Told ℕ → Type 0
LiteralOf o r = r ≡ capped o
