-- The tests of the code are those of the list of names (Words). Assumes nothing.
use mathlib.Core.Path.{◌≡◌, refl, ap, ◌∙◌}
use mathlib.Core.Bool.{Bool, false, ◌||◌}
use lib.Dec.{eqb}
use Rattle.predictive.specs.Grammar.{has}
use Rattle.aadl.specs.Kinds.{IDENT, #◌}
use Rattle.aadl.specs.Section.{keywords, names}
use Rattle.parser.specs.Input.{END}
use Rattle.parser.specs.Parsers.{source, counters}
use Rattle.categories.proofs.Words.{kinds-are}
use Rattle.categories.proofs.at_ident_or_kw.Goals as goal

no_name : has names END ≡ false
unfolding names keywords
no_name = refl

pub returns : goal.returns
unfolding names
returns c =
    let p = c.args.p.now in
    ap (λ (t : Bool). eqb c.current-kind.result (# IDENT) || t) c.is_keyword.ensures
    ∙ kinds-are (source p.tokens) (counters p) names no_name c.current-kind.ensures
