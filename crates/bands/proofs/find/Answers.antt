-- Many words at a turn: a part that has too few of them is passed as a whole (Counted). Assumes nothing.
use native.Mathlib.Omega.{arith}
use Rattle.bands.proofs.Counted.{nth-part}
use Rattle.bands.proofs.find.Goals as goal

pub loop-stride-preserved : goal.loop-stride-preserved
loop-stride-preserved c =
    let l = c.loop-stride in
    let some = c.in-Some in
    let cut = some.ensures.cases in
    let passed = nth-part c.args.band l.rest.now some.stride.now some.behind.now l.left 64 c.count-n.result cut.0 cut.1 cut.2 c.count-n.ensures c.if-left-n.false in
    record { shorter = omega (arith, cut); left_to_find = omega (arith, cut, passed, l.invariant.left_to_find) }
