-- Half as many as there are words (aadl EventPairs). Assumes nothing.
use mathlib.Core.Path.{sym}
use Rattle.aadl.proofs.EventPairs.{length_first_words}
use Rattle.codec.proofs.events_told.Goals as goal

pub returns : goal.returns
returns c = sym (length_first_words _)
