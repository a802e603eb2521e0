-- The event of its word is pushed, and its marker is where that stands. Assumes nothing.
use mathlib.Core.Path.{refl}
use Rattle.predictive.specs.Events.{start}
use Rattle.parser.proofs.Parser.start.Goals as goal

pub returns : goal.returns
returns c =
    let x = c.push.ensures (start 0 0) c.start_word.ensures in
    record { did = record { ran = x.did.ran; mark = refl }; same = x.same }
