-- What is found so far, or is found in the rest. By induction over the bytes. Assumes nothing.
use mathlib.Core.Path.{◌≡◌, ◌∙◌}
use mathlib.Core.Bool.{false, ◌||◌}
use Rattle.std.proofs.Common.{arith}
use Rattle.std.proofs.lemmas.Grind.{common_steps}
use Rattle.std.specs.List.{fold}
use Rattle.classes.specs.Search.{sought}
use Rattle.classes.proofs.Chunks.{folded-any}
use Rattle.classes.proofs.any_between.Goals as goal

pub returns : goal.returns
returns c =
    let a = c.args in
    let folded : c.fold.result ≡ fold (λ f b. f || sought a.least a.most b) false a.s.now = grind (arith, common_steps) in
    folded ∙ folded-any (sought a.least a.most) false a.s.now
