-- The count is the definition's, word by word. Assumes nothing.
use mathlib.Core.Path.{ap, ◌∙◌}
use lib.ListN.{take}
use Rattle.std.proofs.lemmas.List.{take_min}
use Rattle.aadl.specs.Demand.{solid_words}
use Rattle.section.proofs.CleanLaws.{solid-counted}
use Rattle.section.proofs.solid_words.Goals as goal

pub returns : goal.returns
returns c =
    let ws = c.args.tokens.now in
    c.solid_in.ensures ∙ solid-counted (take c.min.result ws)
    ∙ ap (λ n. solid_words (take n ws)) c.min.ensures ∙ ap solid_words (take_min c.args.count ws)
