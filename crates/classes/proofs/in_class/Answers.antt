-- What the table, which is the static by computation, says of the byte (ClassTable). Assumes nothing.
use Prim.Native.Nat.{◌<◌}
use mathlib.Core.Path.{◌∙◌}
use mathlib.Core.Bool.{not}
use lib.ListN.{get_or}
use lib.Dec.{eqb}
use lib.Bits.{bit_and}
use Rattle.aadl.specs.Tokens.{marks}
use Rattle.classes.specs.Classes.{class_table}
use Rattle.classes.proofs.ClassTable.{class-at, shares-is_member}
use borrow.Author.Rules.{rules}
use Rattle.classes.proofs.in_class.Goals as goal

pub returns : goal.returns
unfolding marks class_table
returns c =
    let q = c in
    let h : q.args.b < 256 = search rules in
    (λ i. not (eqb (bit_and (((λ j. get_or class_table (c.from.ensures j) 0) ∙ class-at q.args.b h) i) q.args.class) 0))
    ∙ shares-is_member q.args.class q.args.b h
