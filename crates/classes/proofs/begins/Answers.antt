-- Too few bytes do not fit, and of others each is compared with its range (Rows). Assumes nothing.
use mathlib.Core.Path.{sym, ◌∙◌}
use borrow.Author.Tests.{lt-leb}
use Rattle.classes.proofs.Rows.{fits-long, fits-short}
use Rattle.classes.proofs.begins.Goals as goal

pub returns-then-row-s : goal.returns-then-row-s
returns-then-row-s c = c.in_ranges.ensures ∙ fits-long c.args.row.now c.args.s.now c.if-row-s.true

pub returns-else-row-s : goal.returns-else-row-s
returns-else-row-s c = lt-leb _ _ c.if-row-s.false ∙ sym (fits-short c.args.row.now c.args.s.now c.if-row-s.false)
