-- The definition's three tests, the first by the class of the byte. Assumes nothing.
use mathlib.Core.Path.{ap}
use mathlib.Core.Bool.{Bool, ◌&&◌, ◌||◌}
use lib.Dec.{eqb}
use Rattle.aadl.specs.Bytes.{within}
use Rattle.classes.specs.Classes.{member}
use Rattle.scan.proofs.is_radix_digit.Goals as goal

pub returns : goal.returns
unfolding member
returns c =
    let m = c.args.m in
    let b = c.args.b in
    ap (λ (t : Bool). (((eqb m 120 || eqb m 88) && t) || ((eqb m 111 || eqb m 79) && within 48 55 b)) || ((eqb m 98 || eqb m 66) && within 48 49 b)) c.in_class.ensures
