-- It stands behind the two words of each event before (aadl EventPairs). Assumes nothing.
use native.Mathlib.Omega.{arith}
use mathlib.Core.Path.{sym}
use Rattle.aadl.proofs.EventPairs.{length_first_words, first-word_at}
use Rattle.codec.proofs.first_word.Goals as goal

pub overflow_mul-result : goal.overflow_mul-result
overflow_mul-result c = omega (arith, c.well_formed, c.requires, length_first_words c.args.events.now)

pub offset_bounds-events-number : goal.offset_bounds-events-number
offset_bounds-events-number c = omega (arith, c.well_formed, c.requires, length_first_words c.args.events.now)

pub bounds-events-number : goal.bounds-events-number
bounds-events-number c = omega (arith, c.requires, length_first_words c.args.events.now)

pub returns : goal.returns
returns c = sym (first-word_at _ _ 0 c.requires)
