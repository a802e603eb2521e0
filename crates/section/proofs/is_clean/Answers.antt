-- The two counts are the definition's. Assumes nothing.
use mathlib.Core.Bool.{not, ◌&&◌}
use lib.Dec.{eqb}
use Rattle.aadl.specs.Demand.{is_clean}
use Rattle.section.proofs.is_clean.Goals as goal

pub returns : goal.returns
unfolding is_clean
returns c =
    let at-solid = c in
    let at-error = at-solid in
    let a = at-error.args.a in
    λ i. eqb a.number 0 && (not (at-error.any_error-erring.ensures i) && eqb a.taken (at-solid.solid_words-solid.ensures i))
