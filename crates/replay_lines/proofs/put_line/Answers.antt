-- The words that are used, in a row (writing, LeastLaws). Assumes nothing.
use mathlib.Core.Path.{refl, ap, ◌∙◌}
use Rattle.writing.proofs.LeastLaws.{take_least}
use Rattle.writing.proofs.WriteLaws.{writes-same}
use Rattle.replay_lines.specs.Records.{line}
use Rattle.replay_lines.proofs.SpacedLaws.{map_same}
use Rattle.replay_lines.proofs.put_line.Goals as goal

pub returns : goal.returns
returns c =
    let x = c.args in
    writes-same c.put_row.ensures (ap (line x.name.now) (map_same _ ∙ take_least _ x.used _ x.words.now c.min-n.ensures refl))
