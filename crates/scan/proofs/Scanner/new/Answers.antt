-- The last gap is such a bound (WordLaws). Assumes nothing.
use mathlib.Core.Path.{sym, subst}
use native.Mathlib.Nat.{le_refl}
use Rattle.scan.specs.Places.{Bounds}
use Rattle.scan.proofs.WordLaws.{gap_bounds}
use Rattle.scan.proofs.Scanner.new.Goals as goal

pub invariant_of-result : goal.invariant_of-result
invariant_of-result c = record { bounds = subst (Bounds c.args.text.now) (sym c.word_bound.ensures) (gap_bounds c.args.text.now _ (le_refl _)) }
