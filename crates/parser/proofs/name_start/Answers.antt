-- The word of a Start of that kind, where the event has a first word (Buffer). Assumes nothing.
use mathlib.Core.Path.{sym, ◌∙◌}
use borrow.Author.Tests.{ltb-false}
use Rattle.parser.proofs.Buffer.{named-word, named-out}
use Rattle.parser.proofs.name_start.Goals as goal

pub returns-then-has_first : goal.returns-then-has_first
returns-then-has_first c = named-word _ _ _ _ c.start_word.ensures

pub returns-else-has_first : goal.returns-else-has_first
returns-else-has_first c = named-out _ _ _ (ltb-false _ _ (sym c.has_first.ensures ∙ c.if-has_first.false))
