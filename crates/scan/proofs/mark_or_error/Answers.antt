-- A mark where one stands, else one character (Marks). Assumes nothing.
use mathlib.Core.Path.{sym, ◌∙◌}
use native.Mathlib.Omega.{arith}
use lib.ListN.{drop}
use Rattle.scan.proofs.Marks.{mark-stands, no_mark_stands}
use Rattle.scan.proofs.mark_or_error.Goals as goal

pub returns-in-Some : goal.returns-in-Some
returns-in-Some c = mark-stands (drop c.args.at c.args.s.now) _ (sym c.in-Some.is ∙ c.requires.1)

pub returns-in-None : goal.returns-in-None
returns-in-None c =
    c.token.ensures ∙ no_mark_stands (drop c.args.at c.args.s.now) _ (sym c.in-None.is ∙ c.requires.1) (omega (arith, c.max.ensures, c.sequence_at.ensures))
