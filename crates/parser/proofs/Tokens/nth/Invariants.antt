-- One token further at a turn: what remains is what remained, without as many symbols as there were turns (Trivia). Assumes nothing.
use mathlib.Core.Path.{◌≡◌}
use lib.ListN.{drop}
use Rattle.parser.specs.Input.{rest}
use Rattle.parser.specs.Parsers.{source, cursor}
use Rattle.parser.proofs.Tokens.nth.Given as goal

abbrev pub invariant-loop : goal.invariant-loop
invariant-loop l = rest (source l.t) (cursor l.t) ≡ drop l.counter (rest (source l.self) (cursor l.self))
