-- What the table, which is the static by computation, says of the byte (ClassTable). Assumes nothing.
use Prim.Native.Nat.{◌<◌}
use mathlib.Core.Path.{◌∙◌}
use lib.ListN.{get_or}
use Rattle.aadl.specs.Tokens.{marks}
use Rattle.classes.specs.Classes.{lead_table}
use Rattle.classes.proofs.ClassTable.{lead_at}
use borrow.Author.Rules.{rules}
use Rattle.classes.proofs.lead.Goals as goal

pub returns : goal.returns
unfolding marks lead_table
returns c =
    let q = c in
    let h : q.args.b < 256 = search rules in
    c.from-2.ensures ∙ (λ j. get_or lead_table (c.from.ensures j) 0) ∙ lead_at q.args.b h
