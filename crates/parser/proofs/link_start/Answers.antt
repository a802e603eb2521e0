-- The word that is there, with the distance, where the event has a first word (Buffer). Assumes nothing.
use mathlib.Core.Path.{sym, ◌∙◌}
use borrow.Author.Tests.{ltb-false}
use Rattle.parser.proofs.Buffer.{linked-word, linked-out}
use Rattle.parser.proofs.link_start.Goals as goal

pub returns-then-has_first : goal.returns-then-has_first
returns-then-has_first c = linked-word _ _ _ _ c.with_parent.ensures

pub returns-else-has_first : goal.returns-else-has_first
returns-else-has_first c = linked-out _ _ _ (ltb-false _ _ (sym c.has_first.ensures ∙ c.if-has_first.false))
