-- No more bytes are written than there are (OutcomeLaws). Assumes nothing.
use Rattle.std.proofs.Common.{◌≤◌, ◌-◌, length, arith}
use borrow.Author.Rules.{rules}
use Rattle.streams.proofs.OutcomeLaws.{writes_at_most, moves_behind, behind_at_most}
use Rattle.streams.proofs.write_once.Goals as goal

pub after-requires : goal.after-requires
after-requires g c =
    let rest = length c.args.buf.now - c.args.count in
    let moved = writes_at_most rest c.write-got.result c.came_to.result _ c.came_to.ensures c.write-got.ensures.bound (search rules) in
    let fits : length c.args.buf.now ≤ 18446744073709551615 = search rules in
    moves_behind c.came_to.result c.args.count rest 18446744073709551615 (omega (arith, c.requires, fits)) moved

pub returns : goal.returns
returns g c =
    let n = length c.args.buf.now in
    let rest = n - c.args.count in
    let moved = writes_at_most rest c.write-got.result c.came_to.result _ c.came_to.ensures c.write-got.ensures.bound (search rules) in
    behind_at_most n c.args.count c.came_to.result _ c.after.result c.requires (moves_behind c.came_to.result c.args.count rest n (omega (arith, c.requires)) moved)
    c.after.ensures
