-- The two cases of `shown`. Assumes nothing.
use mathlib.Core.Path.{refl}
use borrow.Author.Tests.{eq-eqb, ne_eqb}
use Rattle.aadl.specs.Symbols.{C_STYLE, shown}
use Rattle.parser.proofs.shown.Goals as goal

pub returns-then-symbol-eq-C_STYLE : goal.returns-then-symbol-eq-C_STYLE
unfolding shown
returns-then-symbol-eq-C_STYLE c = rw (eq-eqb c.args.symbol C_STYLE c.if-symbol-eq-C_STYLE.true) refl

pub returns : goal.returns
unfolding shown
returns c = rw (ne_eqb c.args.symbol C_STYLE c.if-symbol-eq-C_STYLE.false) refl
